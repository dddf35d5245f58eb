-- The questions that a call asks of the engine, in the wide words, and what an answer says of one entry.
use mathlib.Core.Path.{◌≡◌, refl, sym, ap, ap₂, ◌∙◌}
use mathlib.Core.Logic.{by_cases}
use mathlib.Core.Bool.{Bool, true, false, ◌||◌, false≢true}
use mathlib.Core.List.{List}
use Prim.Native.Nat.{ℕ, zero, suc, ◌+◌, ◌*◌, ◌/◌, ◌<◌, ◌≤◌}
use native.Mathlib.Nat.{mul_comm, mul_assoc, le_trans}
use native.Mathlib.Decide.{ℕ_discrete}
use native.Mathlib.Numerals.{add-one}
use native.Mathlib.Omega.{arith}
use lib.ListN.{take}
use borrow.Author.Tests.{eq-eqb, ne_eqb}
use Rattle.semantics.specs.Formula.{Formula}
use Rattle.semantics.specs.Structure.{Structure}
use Rattle.semantics.specs.Truth.{truth, Satisfiable}
use Rattle.semantics.specs.Answer.{Answers}
use Rattle.sets.specs.Set.{nothing, added}
use Rattle.table.specs.declared.entry.Entry.{Entry}
use Rattle.table.specs.Entry.{entry_in, size}
use Rattle.table.specs.Formulas.{formula_at}
use Rattle.table.specs.Space.{weight, sum_of_grades, table_work}
use Rattle.tableau.specs.Wants.{Sat}
use Rattle.wide.specs.Wide.{wide_in, StandsFor, Widened}
use Rattle.wide.proofs.Widening.{wide_weight, wide_stands}
use Rattle.cases.specs.Levels.{Roomy}
use Rattle.decision.specs.Ask.{There}

grades_ext : (entry entry' : ℕ → Entry) (n : ℕ) → ((i : ℕ) → i < n → weight (entry i) ≡ weight (entry' i)) → sum_of_grades entry n ≡ sum_of_grades entry' n
unfolding sum_of_grades
grades_ext entry entry' zero same = refl
grades_ext entry entry' (suc n) same = ap₂ ◌+◌ (same n (omega arith)) (grades_ext entry entry' n (λ i l. same i (omega arith)))

-- half of W has room for a level at each depth
half : (d x : ℕ) → suc d * (4 * x) ≤ 8 * (d + 1) * x
half d x =
    omega (
      arith,
      mul_comm (suc d) (4 * x) ∙ mul_assoc 4 x (suc d),
      mul_assoc 8 (d + 1) x,
      mul_comm (d + 1) x ∙ ap (λ (k : ℕ). x * k) (add-one d),
    )

-- the words that a table's entries are unpacked into
module _ (bytes words : List ℕ) {d count : ℕ} (enough : table_work bytes d ≤ count) (held : Widened bytes (size bytes) words) where
  pub table_room : Roomy (wide_in (take (size bytes) words)) (size bytes) d (table_work bytes 0 / 2) count
  table_room =
      let g = sum_of_grades (entry_in bytes) (size bytes) in
      let same : table_work bytes 0 / 2 ≡ 4 * (2 * size bytes + g + 4) = omega arith in
      record {
        stack = omega (arith, grades_ext (wide_in (take (size bytes) words)) (entry_in bytes) (size bytes) (wide_weight held));
        levels = rw same (omega (arith, half d (2 * size bytes + g + 4), enough));
      }

  pub table_there : (e : ℕ) → There (entry_in bytes) (size bytes) d e → There (wide_in (take (size bytes) words)) (size bytes) d e
  table_there e (inside, deep) = (inside, le_trans (wide_stands held e inside).shallow deep)

-- the set of e alone
pub only_one : (e i : ℕ) → added nothing e i ≡ true → i ≡ e
only_one e i h =
    by_cases (ℕ_discrete i e) (λ (at : i ≡ e). at)
    (λ (other : i ≡ e → ⊥). absurd (false≢true (sym (ap (λ (b : Bool). b || false) (ne_eqb i e other)) ∙ h)))

pub has_one : (e : ℕ) → added nothing e e ≡ true
has_one e = ap (λ (b : Bool). b || false) (eq-eqb e e refl)

module _ (entry : ℕ → Entry) (e : ℕ) where
  pub entry_answer : (r : Bool) → Answers r (Sat entry (added nothing e) nothing) → Answers r (Satisfiable (formula_at entry e))
  entry_answer true sat = record {
    structure = sat.structure;
    world = sat.world;
    inside = sat.inside;
    holds = sat.meets.as_wanted true e (has_one e);
  }
  entry_answer false none = λ sat. none (record {
    structure = sat.structure;
    world = sat.world;
    inside = sat.inside;
    meets = record {
      as_wanted = elim [
        | true ↦ λ i h. rw (only_one e i h) sat.holds
        | false ↦ λ i h. absurd (false≢true h)
      ];
    };
  })

-- formulas that are true at the same worlds are satisfiable together
pub satisfiable_same : {φ ψ : Formula} → ((s : Structure) (w : ℕ) → w < s.worlds → truth s φ w ≡ truth s ψ w) → Satisfiable φ → Satisfiable ψ
satisfiable_same same sat = record {
  structure = sat.structure;
  world = sat.world;
  inside = sat.inside;
  holds = sym (same sat.structure sat.world sat.inside) ∙ sat.holds;
}

pub stands_answer : {φ ψ : Formula} → StandsFor φ ψ → (r : Bool) → Answers r (Satisfiable φ) → Answers r (Satisfiable ψ)
stands_answer stands true sat = satisfiable_same (λ s w inside. stands.same s w) sat
stands_answer stands false none = λ sat. none (satisfiable_same (λ s w inside. sym (stands.same s w)) sat)
