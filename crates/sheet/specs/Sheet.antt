-- The mark sheet: what its input means and what it says. Document 01, "The mark sheet".
use Rattle.std.specs.Prelude.{Result, Ok, Err, ◌≡◌, Bool, cond, ◌&&◌, List, ℕ, ◌+◌, ◌*◌, leb, eqb, length, get_or, take, drop}
use Rattle.faults.specs.declared.Fault.{Fault}
use Rattle.faults.specs.declared.Fault.TheVariants.{TableLength}
use Rattle.semantics.specs.Truth.{Satisfiable}
use Rattle.table.specs.Entry.{entry_in}
use Rattle.table.specs.Formulas.{formula_at}
use Rattle.semantics.specs.Answer.{Answers}
use Rattle.decision.specs.Call.{pair_verdict}
use Rattle.mark.specs.Mark.{MarkIs}
use Rattle.sheet.specs.declared.Sheet.{Sheet}
use Rattle.faults.specs.Verdict.{accepted}

-- the input opens with a byte, the number of entries
abbrev pub entries : List ℕ → ℕ
entries input = get_or input 0 0

-- there are 1 to 64 entries; their bytes and two numbers follow, and nothing else
abbrev pub shaped : List ℕ → Bool
shaped input = leb 1 (entries input) && leb (entries input) 64 && eqb (length input) (4 * entries input + 3)

abbrev pub table_of : List ℕ → List ℕ
table_of input = take (4 * entries input) (drop 1 input)

-- the entry numbers of the model and of the answer
abbrev pub model_of : List ℕ → ℕ
model_of input = get_or input (4 * entries input + 1) 0

abbrev pub answer_of : List ℕ → ℕ
answer_of input = get_or input (4 * entries input + 2) 0

-- what the sheet says of two entries of a table, by the mark call that is lent 8,192 words: is the model possible, is the answer, and the mark
abbrev pub MarkedIs : List ℕ → (model answer : ℕ) → Result Sheet Fault → Type 0
MarkedIs bytes model answer (Ok sheet) =
    (pair_verdict bytes model answer 8192 ≡ accepted)
    × Answers sheet.model (Satisfiable (formula_at (entry_in bytes) model))
    × Answers sheet.answer (Satisfiable (formula_at (entry_in bytes) answer))
    × MarkIs (formula_at (entry_in bytes) model) (formula_at (entry_in bytes) answer) sheet.mark
MarkedIs bytes model answer (Err f) = pair_verdict bytes model answer 8192 ≡ Err f

-- what it says of an input: 1 for another shape
abbrev pub SheetIs : List ℕ → Result Sheet Fault → Type 0
SheetIs input sheet = cond (shaped input) (MarkedIs (table_of input) (model_of input) (answer_of input) sheet) (sheet ≡ Err TableLength)
