-- Laws of `count`, how many of the numbers below a bound pass a test.
-- Each is an induction on the bound: one more number adds its bit.
use mathlib.Core.Path.{◌≡◌, refl, ap, ap₂}
use mathlib.Core.Bool.{Bool, true, false, ◌&&◌}
use mathlib.Core.Logic.{⊎_elim}
use Prim.Native.Nat.{ℕ, zero, suc, ◌+◌, ◌≤◌, ◌<◌, zero-le}
use native.Mathlib.Nat.{add-zero, add-suc, le_step, lt-suc_self, eq-or-lt_of_le, le_of_suc-le-suc, not-suc-le-zero}
use native.Mathlib.Decide.{le_ind}
use native.Mathlib.Omega.{arith}
use lib.Dec.{eqb}
use borrow.Author.Tests.{eq-eqb, ne_eqb}
use Rattle.semantics.specs.Count.{bit, count}

-- tests that agree below the bound have the same count
pub count_ext : {p q : ℕ → Bool} (n : ℕ) → ((i : ℕ) → i < n → p i ≡ q i) → count p n ≡ count q n
unfolding count
count_ext zero h = refl
count_ext (suc n) h = ap₂ (λ (b : Bool) (k : ℕ). bit b + k) (h n (lt-suc_self n)) (count_ext n (λ i l. h i (le_step l)))

bit_mono : (b c : Bool) → (b ≡ true → c ≡ true) → bit b ≤ bit c
bit_mono false c h = zero-le
bit_mono true c h = rw (h refl) (omega arith)

pub count_mono : {p q : ℕ → Bool} (n : ℕ) → ((i : ℕ) → i < n → p i ≡ true → q i ≡ true) → count p n ≤ count q n
unfolding count
count_mono zero h = zero-le
count_mono {p} {q} (suc n) h = omega (arith, bit_mono (p n) (q n) (h n (lt-suc_self n)), count_mono n (λ i l. h i (le_step l)))

pub count_le : (p : ℕ → Bool) (n : ℕ) → count p n ≤ n
unfolding count
count_le p zero = zero-le
count_le p (suc n) = omega (arith, bit_mono (p n) true (λ e. refl), count_le p n)

pub count_add : (p : ℕ → Bool) (n m : ℕ) → count p (n + m) ≡ count p n + count (λ i. p (n + i)) m
unfolding count
count_add p n zero = rw (add-zero n) (omega arith)
count_add p n (suc m) = rw (add-suc n m) (omega (arith, count_add p n m))

pub count_none : {p : ℕ → Bool} (n : ℕ) → ((i : ℕ) → i < n → p i ≡ false) → count p n ≡ 0
unfolding count
count_none zero h = refl
count_none (suc n) h = rw (h n (lt-suc_self n)) (omega (arith, count_none n (λ i l. h i (le_step l))))

-- of a test that only k can pass
pub count_one : (p : ℕ → Bool) {k n : ℕ} → k < n → count (λ i. eqb i k && p i) n ≡ bit (p k)
unfolding count
count_one p {k} {n} h =
    le_ind (λ (m : ℕ). count (λ i. eqb i k && p i) m ≡ bit (p k))
    (rw (eq-eqb k k refl) (omega (arith, count_none {p = λ i. eqb i k && p i} k (λ i l. rw (ne_eqb i k (omega arith))))))
    (λ m l e. rw (ne_eqb m k (omega arith)) (omega arith))
    n h

-- where every number passes, each one does: a rule of a table from one computed count
pub count_all : (p : ℕ → Bool) (n : ℕ) → count p n ≡ n → (i : ℕ) → i < n → p i ≡ true
unfolding count
count_all p zero e i h = absurd (not-suc-le-zero h)
count_all p (suc n) e i h = ⊎_elim (λ (at : i ≡ n). rw at (last (p n) refl)) (λ (l : i < n). count_all p n before i l) (eq-or-lt_of_le (le_of_suc-le-suc h))
  where
    before : count p n ≡ n
    before = omega (arith, bit_mono (p n) true (λ e. refl), count_le p n)

    last : (b : Bool) → p n ≡ b → b ≡ true
    last true q = refl
    last false q = absurd (omega (arith, count_le p n, ap bit q))
