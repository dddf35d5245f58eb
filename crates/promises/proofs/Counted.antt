-- The counting entries that are wanted, entry by entry.
use mathlib.Core.Path.{◌≡◌, refl, sym, ◌∙◌, fun_ext}
use mathlib.Core.Bool.{Bool, true, false, and-false}
use mathlib.Core.Logic.{by_cases}
use Prim.Native.Nat.{ℕ, ◌<◌, ◌≤◌}
use native.Mathlib.Nat.{lt_irrefl}
use native.Mathlib.Decide.{dec_lt}
use native.Mathlib.Omega.{arith}
use borrow.Author.Tests.{eq-eqb}
use Rattle.sets.specs.Set.{member}
use Rattle.table.specs.declared.entry.Entry.{Entry}
use Rattle.tableau.specs.Counting.{bound}
use Rattle.counting.specs.declared.question.Question.{Question}
use Rattle.counting.specs.Question.{asks}
use Rattle.counting.proofs.Asking.{Upto}
use Rattle.wants.specs.declared.Wants.{Wants}
use Rattle.wants.specs.Outcome.{wanted_w}
use Rattle.promises.specs.Relation.{counting, Bounded, QuestionOf}

-- by its own relation an entry asks for what it bounds
pub asks_own : {e : Entry} {w : Wants} {q : Question} → QuestionOf e w q → (i : ℕ) (c : Bool)
    → asks q e i c ≡ bound (member w.yes) (member w.no) e i c
asks_own {e} own i c = rw (own.yes, own.no, own.relation, eq-eqb e.name e.name refl)

untrue : (x : Bool) → (x ≡ true → ⊥) → x ≡ false
untrue true h = absurd (h refl)
untrue false h = refl

-- what is not wanted bounds nothing
counting_none : {n : ℕ} {w : Wants} → Bounded n w → (e : Entry) (i : ℕ) → n ≤ i → counting w e i ≡ false
counting_none {n} {w} bounded e i g =
    let unwanted : (b : Bool) → wanted_w w b i ≡ false = λ b. untrue _ (λ h. lt_irrefl i (omega (arith, bounded.below b i h))) in
    simp (unwanted true, unwanted false, and-false)

pub counted_all : {n : ℕ} {w : Wants} → Bounded n w → (entry : ℕ → Entry) {found : ℕ → Bool} → Upto (λ i. counting w (entry i) i) n found
    → found ≡ (λ i. counting w (entry i) i)
counted_all {n} bounded entry u =
    fun_ext (λ j. by_cases (dec_lt j n) (λ (l : j < n). u.below j l)
    (λ (g : ¬ (j < n)). let past : n ≤ j = omega arith in u.behind j past ∙ sym (counting_none bounded (entry j) j past)))
