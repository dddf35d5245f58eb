-- A search through the members of a set, one at a time: those that are left, and those that were passed, which fail the test.
use mathlib.Core.Path.{◌≡◌, refl, ap, ◌∙◌, sym}
use mathlib.Core.Logic.{⊎_elim}
use mathlib.Core.Bool.{Bool, true, false, not, true≢false}
use Prim.Native.Nat.{ℕ, zero, suc, ◌<◌}
use native.Mathlib.Nat.{eq-or-lt_of_le, le_of_suc-le-suc, not-suc-le-zero}
use native.Mathlib.Omega.{arith}
use lib.Dec.{eqb}
use borrow.Author.Tests.{eq-eqb, ne_eqb}
use Rattle.semantics.specs.Count.{count}
use Rattle.semantics.proofs.Count.{count_mono}
use Rattle.sets.specs.Set.{removed}
use Rattle.sets.proofs.Tests.{both_parts}

-- what is left of p: members of p, with all that pass the test among them
pub record Left (p test rest : ℕ → Bool) : Type 0 where
  pub within : (i : ℕ) → rest i ≡ true → p i ≡ true
  pub passing : (i : ℕ) → p i ≡ true → test i ≡ true → rest i ≡ true

pub left_all : (p test : ℕ → Bool) → Left p test p
left_all p test = record { within = λ i h. h; passing = λ i h t. h }

pub left_without : {p test rest : ℕ → Bool} {k : ℕ} → Left p test rest → test k ≡ false → Left p test (removed rest k)
left_without {p} {test} {rest} {k} left fails = record {
  within = λ i h. left.within i (both_parts true (not (eqb i k)) (rest i) h).1;
  passing = λ i h t. rw (ne_eqb i k (λ (e : i ≡ k). true≢false (sym t ∙ ap test e ∙ fails)), left.passing i h t);
}

-- one member less
pub count_removed : (p : ℕ → Bool) {k : ℕ} (n : ℕ) → p k ≡ true → k < n → count (removed p k) n < count p n
unfolding count
count_removed p zero h l = absurd (not-suc-le-zero l)
count_removed p {k} (suc n) h l =
    ⊎_elim
    (λ (e : k ≡ n).
    rw (← e, eq-eqb k k refl, h) (omega (arith, count_mono {p = removed p k} {q = p} k (λ i b r. (both_parts true (not (eqb i k)) (p i) r).1))))
    (λ (b : k < n). rw (ne_eqb n k (omega arith)) (omega (arith, count_removed p n h b)))
    (eq-or-lt_of_le (le_of_suc-le-suc l))
