-- The calls for C and Rust. Each returns a status: 0, or the number of the refusal. An answer goes to a place that the caller
-- lends, which a refusal leaves as it was.
use Rattle.std.specs.Prelude.{Result, ◌≡◌, Bool, List, ℕ, zero, suc}
use Rattle.faults.specs.declared.Fault.{Fault}
use Rattle.faults.specs.Verdict.{refusal}
use Rattle.decision.specs.Decide.{DecisionIs, number_of as decided}
use Rattle.mark.specs.declared.Mark.{Mark}
use Rattle.mark.specs.Mark.{MarkingIs, marking_number}
use Rattle.typed.specs.Reading.{ReadingIs, number_of as reading_number}

-- the number at the lent place after a call with this status: its answer's, or the one that was there
abbrev pub placed : (status answer before : ℕ) → ℕ
placed zero answer before = answer
placed (suc fault) answer before = before

-- The status and the lent place tell what the decision call answers; the words are as it leaves them.
abbrev pub DecisionTold : List ℕ → ℕ → (before after : List ℕ) → (place place' : ℕ) → ℕ → Type 0
DecisionTold bytes e before after place place' status =
    (r : Result Bool Fault) × DecisionIs bytes e before after r × (status ≡ refusal r) × (place' ≡ placed status (decided r) place)

-- the same of the mark call
abbrev pub MarkTold : List ℕ → (model answer : ℕ) → (before after : List ℕ) → (place place' : ℕ) → ℕ → Type 0
MarkTold bytes model answer before after place place' status =
    (r : Result Mark Fault) × MarkingIs bytes model answer before after r × (status ≡ refusal r) × (place' ≡ placed status (marking_number r) place)

-- the same of a typed answer; the bytes are as the call leaves them
abbrev pub ReadingTold : (text before after : List ℕ) → (place place' : ℕ) → ℕ → Type 0
ReadingTold text before after place place' status =
    (r : Result ℕ Fault) × ReadingIs text before after r × (status ≡ refusal r) × (place' ≡ placed status (reading_number r) place)
