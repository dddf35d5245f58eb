-- Sums over the members of a set, one member at a time, and how great they are.
use mathlib.Core.Path.{◌≡◌, refl, sym, ◌∙◌}
use mathlib.Core.Logic.{by_cases, ⊎_elim}
use mathlib.Core.Bool.{Bool, true, true≢false}
use mathlib.Core.List.{List}
use Prim.Native.Nat.{ℕ, zero, suc, ◌+◌, ◌*◌, ◌^◌, ◌<◌, ◌≤◌}
use native.Mathlib.Nat.{eq-or-lt_of_le, le_of_suc-le-suc, le_refl, not-suc-le-zero, mul-le-mul, mul-suc}
use native.Mathlib.Decide.{dec_lt}
use native.Mathlib.Omega.{arith}
use borrow.Author.Tests.{eq-eqb, ne_eqb}
use Rattle.semantics.specs.Count.{gain, sum}
use Rattle.semantics.proofs.Sum.{sum_same, sum_none}
use Rattle.sets.specs.declared.Set.{Set}
use Rattle.sets.specs.Set.{member, nothing, removed}
use Rattle.sets.proofs.Words.{bit_high}
use Rattle.wide.specs.Wide.{wide_in}
use Rattle.counting.proofs.Measures.{bound_few}
use Rattle.counting.proofs.Slots.{gain_le}
use Rattle.weights.specs.Weighed.{weight_at, over, left_weight}

sum_le : {f : ℕ → ℕ} (m n : ℕ) → ((i : ℕ) → f i ≤ m) → sum f n ≤ m * n
unfolding sum
sum_le m zero h = omega arith
sum_le m (suc n) h = omega (arith, h n, sum_le m n h, mul-suc m n)

-- ---- member by member

sum_removed : (p : ℕ → Bool) (f : ℕ → ℕ) {k : ℕ} (n : ℕ) → p k ≡ true → k < n
    → sum (λ i. gain (p i) (f i)) n ≡ f k + sum (λ i. gain (removed p k i) (f i)) n
unfolding sum
sum_removed p f zero h l = absurd (not-suc-le-zero l)
sum_removed p f {k} (suc n) h l =
    ⊎_elim
    (λ (e : k ≡ n).
    let others : sum (λ i. gain (p i) (f i)) k ≡ sum (λ i. gain (removed p k i) (f i)) k = sum_same k (λ i less. rw (ne_eqb i k (omega arith))) in
    rw (← e, eq-eqb k k refl, h) (omega (arith, others)))
    (λ (less : k < n). rw (ne_eqb n k (omega arith)) (omega (arith, sum_removed p f n h less)))
    (eq-or-lt_of_le (le_of_suc-le-suc l))

-- a set has numbers below 64 only
pub member_below : (set : Set) → set.bits < 2 ^ 64 → {i : ℕ} → member set i ≡ true → i < 64
unfolding member
member_below set narrow {i} h = by_cases (dec_lt i 64) (λ (less : i < 64). less) (λ (g : ¬ (i < 64)). absurd (true≢false (sym h ∙ bit_high {w = 64} narrow (omega arith))))

pub over_removed : (p : ℕ → Bool) (f : ℕ → ℕ) {k : ℕ} → p k ≡ true → k < 64 → over p f ≡ f k + over (removed p k) f
over_removed p f = sum_removed p f 64

pub over_nothing : {p : ℕ → Bool} (f : ℕ → ℕ) → p ≡ nothing → over p f ≡ 0
over_nothing f e = rw e (sum_none 64 (λ i l. refl))

-- ---- no sum is great

over_le : (p : ℕ → Bool) (f : ℕ → ℕ) (m : ℕ) → ((i : ℕ) → f i ≤ m) → over p f ≤ m * 64
over_le p f m h = sum_le m 64 (λ i. omega (arith, gain_le (p i) (f i), h i))

pub ones_few : (p : ℕ → Bool) → over p (λ i. 1) ≤ 64
ones_few p = over_le p (λ i. 1) 1 (λ i. le_refl 1)

module _ (words : List ℕ) (from : ℕ) where
  weight_le : (i : ℕ) → weight_at words from i ≤ 1073741824
  weight_le i = omega arith

  pub weights_few : (p : ℕ → Bool) → over p (weight_at words from) ≤ 68719476736
  weights_few p = over_le p (weight_at words from) 1073741824 weight_le

  module _ (entries : List ℕ) (k : ℕ) (c : Bool) where
    pub left_le : (i : ℕ) → left_weight entries words k from c i ≤ 4398046511104
    left_le i =
        let bounded = bound_few c (wide_in entries i) (omega arith) in
        mul-le-mul {n₂ = 1073741824} {m₂ = 4096} (weight_le i) (omega (arith, bounded))

    pub left_few : (p : ℕ → Bool) → over p (left_weight entries words k from c) ≤ 281474976710656
    left_few p = over_le p (left_weight entries words k from c) 4398046511104 left_le
