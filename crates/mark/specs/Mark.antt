-- The mark of an answer beside a model: how the worlds that make the one true stand to those of the other. The mission's demand 3, document 01,
-- "Possible, and the mark", and document 02, P2: an answer that is not possible has a mark of its own.
use Rattle.std.specs.Prelude.{Result, Ok, Err, ◌≡◌, true, false, List, ℕ, ◌<◌, length}
use Rattle.faults.specs.declared.Fault.{Fault}
use Rattle.faults.specs.Verdict.{accepted, answer_number}
use Rattle.semantics.specs.Formula.{Formula}
use Rattle.semantics.specs.Structure.{Structure}
use Rattle.semantics.specs.Truth.{truth, Satisfiable}
use Rattle.table.specs.Entry.{entry_in}
use Rattle.table.specs.Formulas.{formula_at}
use Rattle.decision.specs.Call.{pair_work, pair_verdict, Cleared}
use Rattle.mark.specs.declared.Mark.{Mark}

-- the two are true at the same worlds of all finite structures
abbrev pub Same : Formula → Formula → Type 0
Same φ ψ = (s : Structure) (w : ℕ) → w < s.worlds → truth s φ w ≡ truth s ψ w

-- where φ is true, ψ is
abbrev pub Inside : Formula → Formula → Type 0
Inside φ ψ = (s : Structure) (w : ℕ) → w < s.worlds → truth s φ w ≡ true → truth s ψ w ≡ true

-- at some world of some finite structure φ is true and ψ is not
pub record Beyond (φ ψ : Formula) : Type 0 where
  pub structure : Structure
  pub world : ℕ
  pub inside : world < structure.worlds
  pub holds : truth structure φ world ≡ true
  pub fails : truth structure ψ world ≡ false

-- the mark fits the model and the answer
abbrev pub MarkIs : (model answer : Formula) → Mark → Type 0
MarkIs model answer Mark.Equal = Satisfiable answer × Same model answer
MarkIs model answer Mark.Narrower = Satisfiable answer × Inside answer model × Beyond model answer
MarkIs model answer Mark.Wider = Satisfiable answer × Inside model answer × Beyond answer model
MarkIs model answer Mark.Crossing = Satisfiable answer × Beyond answer model × Beyond model answer
MarkIs model answer Mark.Impossible = Satisfiable answer → ⊥

-- the number of each mark: document 01's, and document 02's 4
abbrev pub number_of : Mark → ℕ
number_of Mark.Equal = 0
number_of Mark.Narrower = 1
number_of Mark.Wider = 2
number_of Mark.Crossing = 3
number_of Mark.Impossible = 4

-- the number that a call returns: of the mark, or of the fault
abbrev pub marking_number : Result Mark Fault → ℕ
marking_number = answer_number number_of

-- what a mark call answers for a model's and an answer's entry, and what the lent words are then
abbrev pub MarkingIs : List ℕ → (model answer : ℕ) → (before after : List ℕ) → Result Mark Fault → Type 0
MarkingIs bytes model answer before after (Ok mark) =
    (pair_verdict bytes model answer (length before) ≡ accepted)
    × MarkIs (formula_at (entry_in bytes) model) (formula_at (entry_in bytes) answer) mark
    × Cleared (pair_work bytes model answer) before after
MarkingIs bytes model answer before after (Err f) = (pair_verdict bytes model answer (length before) ≡ Err f) × (after ≡ before)
