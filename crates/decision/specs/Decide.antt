-- The decision: is an entry of a table possible. Document 01, "Possible, and the mark".
use Rattle.std.specs.Prelude.{Result, Ok, Err, ◌≡◌, Bool, true, false, List, ℕ, leb, ltb, length}
use Rattle.faults.specs.declared.Fault.{Fault}
use Rattle.faults.specs.declared.Fault.TheVariants.{EntryNumber, Space}
use Rattle.faults.specs.Verdict.{Verdict, accepted, yes_or_no, answer_number, refuse_if, and_then}
use Rattle.semantics.specs.Truth.{Satisfiable}
use Rattle.table.specs.Entry.{entry_in, size}
use Rattle.table.specs.Formulas.{formula_at, depth_at}
use Rattle.table.specs.Space.{table_work}
use Rattle.table.specs.Check.{table_verdict}
use Rattle.decision.specs.Call.{Cleared}

-- document 01's number of each answer, 1 for possible and 0 for impossible; of a refusal, that of its fault
abbrev pub number_of : Result Bool Fault → ℕ
number_of = answer_number yes_or_no

-- document 01's W for the decision of entry e
abbrev pub entry_work : List ℕ → ℕ → ℕ
entry_work bytes e = table_work bytes (depth_at (entry_in bytes) e)

-- the faults of the table, then 9: there is no such entry, then 10: the lent words are fewer than W
abbrev pub decide_verdict : List ℕ → ℕ → ℕ → Verdict
decide_verdict bytes e words =
    and_then (table_verdict bytes) (and_then (refuse_if (leb (size bytes) e) EntryNumber) (refuse_if (ltb words (entry_work bytes e)) Space))

-- what a decision answers, and what the lent words are then
abbrev pub DecisionIs : List ℕ → ℕ → List ℕ → List ℕ → Result Bool Fault → Type 0
DecisionIs bytes e before after (Ok true) =
    (decide_verdict bytes e (length before) ≡ accepted) × Satisfiable (formula_at (entry_in bytes) e) × Cleared (entry_work bytes e) before after
DecisionIs bytes e before after (Ok false) =
    (decide_verdict bytes e (length before) ≡ accepted) × (Satisfiable (formula_at (entry_in bytes) e) → ⊥) × Cleared (entry_work bytes e) before after
DecisionIs bytes e before after (Err f) = (decide_verdict bytes e (length before) ≡ Err f) × (after ≡ before)
