-- The demands of the mission at the calls for C: what the status and the lent place say. Each theorem speaks of any status and place
-- that keep the promise of their call.
use mathlib.Core.Path.{◌≡◌, sym, ◌∙◌}
use mathlib.Core.Logic.{◌↔◌}
use mathlib.Core.List.{List}
use Prim.Native.Nat.{ℕ}
use lib.ListN.{length}
use Rattle.faults.specs.declared.Fault.{Fault}
use Rattle.semantics.specs.Truth.{Satisfiable}
use Rattle.table.specs.Entry.{entry_in}
use Rattle.table.specs.Formulas.{formula_at}
use Rattle.decision.specs.Call.{pair_verdict}
use Rattle.decision.specs.Decide.{number_of as decided, decide_verdict}
use Rattle.mark.specs.declared.Mark.{Mark}
use Rattle.mark.specs.Mark.{MarkIs, number_of as mark_number, marking_number}
use Rattle.faults.specs.Verdict.{Verdict, accepted, number_of, refusal}
use Rattle.faults.proofs.Numbers.{no_fault}
use Rattle.grammar.specs.Tree.{Tree}
use Rattle.grammar.specs.Fits.{Fits}
use Rattle.typed.specs.Reading.{NoTree, tree_verdict, ReadingIs, number_of as reading_number}
use Rattle.hurnavis.proofs.Typed.{Means, text_11, text_refused, text_keeps, text_means}
use Rattle.hurnavis.proofs.Demands.{Refuses, decision_refused, decision_possible, decision_impossible, mark_refused, mark_exactly}
use Rattle.exports.specs.Status.{placed, DecisionTold, MarkTold, ReadingTold}
use Rattle.exports.proofs.Kept.{kept}
use Rattle.std.specs.Prelude.{Result, Ok, Err}

-- a call without a fault has the number of its answer at the lent place; a call with one has what was there
module _ {verdict : Verdict} {status : ℕ} (told : Refuses verdict status) where
  answered : (answer place : ℕ) {place' : ℕ} → verdict ≡ accepted → place' ≡ placed status answer place → place' ≡ answer
  answered answer place ok is = rw (told.answered.1 ok) at is

  as_before : (answer place : ℕ) {place' : ℕ} (f : Fault) → verdict ≡ Err f → place' ≡ placed status answer place → place' ≡ place
  as_before answer place f found is = is ∙ sym (kept f answer place ((told.refused f).1 found))

module _ (bytes : List ℕ) (e : ℕ) (before after : List ℕ) (place place' status : ℕ) (told : DecisionTold bytes e before after place place' status) where
  -- the status is the number of the first fault, and 0 exactly where there is none
  pub decide_status : Refuses (decide_verdict bytes e (length before)) status
  decide_status = rw told.2 (decision_refused bytes e before after told.0 told.1)

  pub decide_keeps_place : (f : Fault) → decide_verdict bytes e (length before) ≡ Err f → place' ≡ place
  decide_keeps_place f found = as_before decide_status (decided told.0) place f found told.3

  -- without a fault the place holds 1 exactly where the entry is possible, and 0 exactly where it is impossible
  pub decide_possible : decide_verdict bytes e (length before) ≡ accepted → (place' ≡ 1) ↔ Satisfiable (formula_at (entry_in bytes) e)
  decide_possible ok = rw (answered decide_status (decided told.0) place ok told.3) (decision_possible bytes e before after told.0 told.1 ok)

  pub decide_impossible : decide_verdict bytes e (length before) ≡ accepted → (place' ≡ 0) ↔ (Satisfiable (formula_at (entry_in bytes) e) → ⊥)
  decide_impossible ok = rw (answered decide_status (decided told.0) place ok told.3) (decision_impossible bytes e before after told.0 told.1 ok)

module _ (bytes : List ℕ) (model answer : ℕ) (before after : List ℕ) (place place' status : ℕ) (told : MarkTold bytes model answer before after place place' status) where
  pub mark_status : Refuses (pair_verdict bytes model answer (length before)) status
  mark_status = rw told.2 (mark_refused bytes model answer before after told.0 told.1)

  pub mark_keeps_place : (f : Fault) → pair_verdict bytes model answer (length before) ≡ Err f → place' ≡ place
  mark_keeps_place f found = as_before mark_status (marking_number told.0) place f found told.3

  -- without a fault the place holds the number of a mark exactly where that mark fits
  pub mark_told : pair_verdict bytes model answer (length before) ≡ accepted → (m : Mark)
      → (place' ≡ mark_number m) ↔ MarkIs (formula_at (entry_in bytes) model) (formula_at (entry_in bytes) answer) m
  mark_told ok m = rw (answered mark_status (marking_number told.0) place ok told.3) (mark_exactly bytes model answer before after told.0 told.1 ok m)

module _ (text before after : List ℕ) (place place' status : ℕ) (told : ReadingTold text before after place place' status) where
  -- the status is 11 exactly when no tree fits the text; of a text with a tree it is the number of the first of 12 and 10, or 0
  pub text_status_11 : (status ≡ 11) ↔ NoTree text
  text_status_11 = rw told.2 (text_11 text before after told.0 told.1)

  pub text_status : (t : Tree) → Fits text t → Refuses (tree_verdict text t (length before)) status
  text_status t fits = rw told.2 (text_refused text before after told.0 told.1 t fits)

  -- a refusal leaves the bytes and the place as they were
  pub text_refusal_keeps : (f : Fault) → status ≡ number_of f → (after ≡ before) × (place' ≡ place)
  text_refusal_keeps f is =
      (text_keeps text before after told.0 told.1 f (sym told.2 ∙ is), told.3 ∙ sym (kept f (reading_number told.0) place is))

  -- without a fault the place holds the number of entries, and the table means what the grammar reads
  pub text_told : (t : Tree) → Fits text t → tree_verdict text t (length before) ≡ accepted → Means t place' before after
  text_told t fits ok = means told.0 told.1 told.2 told.3
    where
      means : (r : Result ℕ Fault) → ReadingIs text before after r → status ≡ refusal r → place' ≡ placed status (reading_number r) place → Means t place' before after
      means (Ok n) is told-status told-place =
          let answer : place' ≡ n = rw told-status at told-place in
          rw answer (text_means text before after n is t fits)
      means (Err f) is told-status told-place = absurd (no_fault f (sym told-status ∙ (text_status t fits).answered.1 ok))
