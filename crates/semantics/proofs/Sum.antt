-- Laws of sums, as those of counts: inductions on the bound. And what a test gains.
use mathlib.Core.Path.{◌≡◌, refl, ap₂}
use mathlib.Core.Bool.{Bool, true, false, ◌&&◌}
use mathlib.Core.Logic.{⊎_elim}
use Prim.Native.Nat.{ℕ, zero, suc, ◌+◌, ◌≤◌, ◌<◌}
use native.Mathlib.Nat.{add-zero, add-suc, le_step, lt-suc_self, eq-or-lt_of_le, le_of_suc-le-suc}
use native.Mathlib.Omega.{arith}
use Rattle.semantics.specs.Count.{bit, count, gain, sum}
use Rattle.semantics.specs.Structure.{number}
use Rattle.semantics.specs.Plain.{once}

pub sum_same : {f g : ℕ → ℕ} (n : ℕ) → ((i : ℕ) → i < n → f i ≡ g i) → sum f n ≡ sum g n
unfolding sum
sum_same zero h = refl
sum_same (suc n) h = ap₂ ◌+◌ (h n (lt-suc_self n)) (sum_same n (λ i l. h i (le_step l)))

pub sum_none : {f : ℕ → ℕ} (n : ℕ) → ((i : ℕ) → i < n → f i ≡ 0) → sum f n ≡ 0
unfolding sum
sum_none zero h = refl
sum_none (suc n) h = omega (arith, h n (lt-suc_self n), sum_none n (λ i l. h i (le_step l)))

pub sum_add : (f : ℕ → ℕ) (n m : ℕ) → sum f (n + m) ≡ sum f n + sum (λ i. f (n + i)) m
unfolding sum
sum_add f n zero = rw (add-zero n) (omega arith)
sum_add f n (suc m) = rw (add-suc n m) (omega (arith, sum_add f n m))

pub sum_plus : (f g : ℕ → ℕ) (n : ℕ) → sum (λ i. f i + g i) n ≡ sum f n + sum g n
unfolding sum
sum_plus f g zero = refl
sum_plus f g (suc n) = omega (arith, sum_plus f g n)

-- what comes to nothing from n on can be left out
pub sum_cut : {f : ℕ → ℕ} {n : ℕ} (m : ℕ) → ((i : ℕ) → n ≤ i → f i ≡ 0) → n ≤ m → sum f n ≡ sum f m
unfolding sum
sum_cut {n = n} zero h l = let e : n ≡ 0 = omega arith in rw e
sum_cut {f} {n} (suc m) h l =
    ⊎_elim (λ (e : n ≡ suc m). rw e) (λ (less : n < suc m). omega (arith, h m (le_of_suc-le-suc less), sum_cut m h (le_of_suc-le-suc less)))
    (eq-or-lt_of_le l)

-- a count is the sum of its bits
pub sum_bits : (p : ℕ → Bool) (n : ℕ) → sum (λ i. bit (p i)) n ≡ count p n
unfolding sum count
sum_bits p zero = refl
sum_bits p (suc n) = omega (arith, sum_bits p n)

pub gain_zero : (b : Bool) → gain b 0 ≡ 0
gain_zero true = refl
gain_zero false = refl

-- where there is no link, nothing is gained
pub sum_unlinked : (p : ℕ → Bool) (n : ℕ) → sum (λ i. gain (p i) 0) n ≡ 0
sum_unlinked p n = sum_none n (λ i l. gain_zero (p i))

-- a link of one copy counts once or not at all
pub gain_once : (b c : Bool) → gain b (number (once c)) ≡ bit (c && b)
gain_once true true = refl
gain_once true false = refl
gain_once false true = refl
gain_once false false = refl
