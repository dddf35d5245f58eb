-- The set of all needs and limits, entry by entry.
use mathlib.Core.Path.{◌≡◌, refl, sym, ◌∙◌, fun_ext}
use mathlib.Core.Bool.{Bool, true, false, and-false}
use mathlib.Core.Logic.{⊎_elim, by_cases}
use Prim.Native.Nat.{ℕ, suc, ◌<◌, ◌≤◌}
use native.Mathlib.Nat.{eq-or-lt_of_le, le_of_suc-le-suc, not-suc-le-zero, lt_irrefl}
use native.Mathlib.Decide.{dec_lt}
use native.Mathlib.Omega.{arith}
use borrow.Author.Tests.{eq-eqb, ne_eqb}
use Rattle.tableau.specs.Wants.{wanted, added_if}
use Rattle.tableau.specs.Search.{Problem, asking}
use Rattle.counting.specs.Question.{Small}

-- p below n, and nothing from there on
pub record Upto (p : ℕ → Bool) (n : ℕ) (found : ℕ → Bool) : Type 0 where
  pub below : (j : ℕ) → j < n → found j ≡ p j
  pub behind : (j : ℕ) → n ≤ j → found j ≡ false

added_here : (b : Bool) (p : ℕ → Bool) (i : ℕ) → p i ≡ false → added_if b p i i ≡ b
added_here true p i h = rw (eq-eqb i i refl)
added_here false p i h = h

added_other : (b : Bool) (p : ℕ → Bool) (i j : ℕ) → (j ≡ i → ⊥) → added_if b p i j ≡ p j
added_other true p i j h = rw (ne_eqb j i h)
added_other false p i j h = refl

module _ (p : ℕ → Bool) where
  pub upto_none : Upto p 0 (λ j. false)
  upto_none = record { below = λ j l. absurd (not-suc-le-zero l); behind = λ j l. refl }

  pub upto_next : {n : ℕ} {found : ℕ → Bool} → Upto p n found → Upto p (suc n) (added_if (p n) found n)
  upto_next {n} {found} u = record {
    below = λ j l. ⊎_elim
        (λ (e : j ≡ n). rw e (added_here (p n) found n (u.behind n (omega arith))))
        (λ (less : j < n). added_other (p n) found n j (omega arith) ∙ u.below j less)
        (eq-or-lt_of_le (le_of_suc-le-suc l));
    behind = λ j l. added_other (p n) found n j (omega arith) ∙ u.behind j (omega arith);
  }

pub untrue : (x : Bool) → (x ≡ true → ⊥) → x ≡ false
untrue true h = absurd (h refl)
untrue false h = refl

-- what is not wanted asks for nothing
asking_none : (P : Problem) → Small P → (j : ℕ) → P.n ≤ j → asking P j ≡ false
asking_none P small j g =
    let unwanted : (b : Bool) → wanted P.yes P.no b j ≡ false = λ b. untrue _ (λ h. lt_irrefl j (omega (arith, small.below b j h))) in
    simp (unwanted true, unwanted false, and-false)

pub upto_all : (P : Problem) → Small P → {found : ℕ → Bool} → Upto (asking P) P.n found → found ≡ asking P
upto_all P small u =
    fun_ext (λ j. by_cases (dec_lt j P.n) (λ (l : j < P.n). u.below j l)
    (λ (g : ¬ (j < P.n)). let past : P.n ≤ j = omega arith in u.behind j past ∙ sym (asking_none P small j past)))
