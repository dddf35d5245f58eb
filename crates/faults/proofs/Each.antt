-- A loop that stops at the first refusal finds the verdict of the whole row: what was refused stays refused.
use mathlib.Core.Path.{◌≡◌, refl, sym, ap₂, ◌∙◌}
use mathlib.Core.Logic.{⊎_elim}
use mathlib.Core.Bool.{Bool, true, false, ◌||◌}
use Prim.Native.Nat.{ℕ, zero, suc, ◌+◌, ◌<◌, ◌≤◌, zero-le}
use native.Mathlib.Numerals.{add-one}
use native.Mathlib.Omega.{arith}
use native.Mathlib.Nat.{eq-or-lt_of_le, le_of_suc-le-suc, not-suc-le-zero}
use Rattle.faults.specs.declared.Fault.{Fault}
use Rattle.faults.specs.Verdict.{Verdict, accepted, refuse_if, and_then, each}
use Rattle.std.specs.Prelude.{Ok, Err}

-- a refusal stays the verdict, however many follow
each_refused : (v : ℕ → Verdict) (i n : ℕ) (f : Fault) → each v i ≡ accepted → v i ≡ Err f → i < n → each v n ≡ Err f
unfolding each
each_refused v i zero f before here h = absurd (not-suc-le-zero h)
each_refused v i (suc n) f before here h =
    ⊎_elim (λ (e : i ≡ n). rw (← e, before, here) refl)
    (λ (l : i < n). rw (each_refused v i n f before here l) refl)
    (eq-or-lt_of_le (le_of_suc-le-suc h))

-- the invariant of such a loop: the first i of n checks were passed, and accept
pub record Passed (v : ℕ → Verdict) (n i : ℕ) : Type 0 where
  pub within : i ≤ n
  pub accepted : each v i ≡ accepted

pub none_passed : (v : ℕ → Verdict) (n : ℕ) → Passed v n 0
unfolding each
none_passed v n = record { within = zero-le; accepted = refl }

module _ {v : ℕ → Verdict} {n i : ℕ} (passed : Passed v n i) where
  -- r is what check i finds: where it accepts, one more is passed, and where it refuses, r is the verdict of all
  module _ (h : i < n) {r : Verdict} (found : r ≡ v i) where
    pub one_more : r ≡ accepted → Passed v n (i + 1)
    unfolding each
    one_more ok = record { within = omega arith; accepted = rw (add-one i, passed.accepted, sym found) ok }

    pub refused_here : {f : Fault} → r ≡ Err f → r ≡ each v n
    refused_here {f} e = e ∙ sym (each_refused v i n f passed.accepted (sym found ∙ e) h)

  pub all_passed : n ≤ i → accepted ≡ each v n
  all_passed h = let e : i ≡ n = omega arith in sym (rw e at passed.accepted)

-- a test that accepts found nothing
pub not_refused : (b : Bool) (f : Fault) → refuse_if b f ≡ accepted → b ≡ false
not_refused true f e = let z : ◌≡◌ {A = ℕ} 0 1 = cc in absurd (omega arith)
not_refused false f e = refl

-- two tests in one find nothing where neither does
pub neither : (a b : Bool) → a || b ≡ false → (a ≡ false) × (b ≡ false)
neither true b e = let z : ◌≡◌ {A = ℕ} 0 1 = cc in absurd (omega arith)
neither false b e = (refl, e)

-- of three checks in a row it does not matter which two are taken together
pub then_then : (a b c : Verdict) → and_then (and_then a b) c ≡ and_then a (and_then b c)
then_then (Ok tt) b c = refl
then_then (Err f) b c = refl

-- two checks in a row accept only where both do
pub both_accepted : (a b : Verdict) → and_then a b ≡ accepted → (a ≡ accepted) × (b ≡ accepted)
both_accepted (Ok tt) b e = (refl, e)
both_accepted (Err f) b e = let z : ◌≡◌ {A = ℕ} 0 1 = cc in absurd (omega arith)

-- where the row is accepted, each of its checks is
pub each_accepted : (v : ℕ → Verdict) (n : ℕ) → each v n ≡ accepted → (i : ℕ) → i < n → v i ≡ accepted
unfolding each
each_accepted v zero e i h = absurd (not-suc-le-zero h)
each_accepted v (suc n) e i h =
    let both : (each v n ≡ accepted) × (v n ≡ accepted) = both_accepted (each v n) (v n) e in
    ⊎_elim (λ (at : i ≡ n). rw at both.1) (λ (l : i < n). each_accepted v n both.0 i l)
    (eq-or-lt_of_le (le_of_suc-le-suc h))

-- and where each of them accepts, the row does
pub all_accepted : (v : ℕ → Verdict) (n : ℕ) → ((i : ℕ) → i < n → v i ≡ accepted) → each v n ≡ accepted
unfolding each
all_accepted v zero ok = refl
all_accepted v (suc n) ok = rw (all_accepted v n (λ i h. ok i (omega arith))) (ok n (omega arith))

-- checks that agree have the same verdict
pub each_same : {v v' : ℕ → Verdict} (n : ℕ) → ((i : ℕ) → i < n → v i ≡ v' i) → each v n ≡ each v' n
unfolding each
each_same zero h = refl
each_same (suc n) h = ap₂ and_then (each_same n (λ i l. h i (omega arith))) (h n (omega arith))
