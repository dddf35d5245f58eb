-- The truth table of a structure: a word for each entry, a bit for each world. Document 01 calls it the board.
use Rattle.std.specs.Prelude.{Ok, Err, ◌≡◌, List, ℕ, ◌<◌, ◌≤◌, ltb, length, get_or}
use Rattle.semantics.specs.Structure.{Structure}
use Rattle.semantics.specs.Truth.{truth}
use Rattle.sets.specs.Word.{word}
use Rattle.faults.specs.declared.Fault.TheVariants.{Space}
use Rattle.faults.specs.Verdict.{Verdict, refuse_if, and_then}
use Rattle.table.specs.declared.entry.Entry.{Entry}
use Rattle.table.specs.Entry.{entry_in, size}
use Rattle.table.specs.Formulas.{formula_at}
use Rattle.table.specs.Check.{table_verdict}
use Rattle.structure.specs.Read.{structure_of}
use Rattle.structure.specs.Check.{structure_verdict}

-- bit w of the word of entry i is 1 exactly when the entry's formula is true at the world w; bits that are no worlds are 0
abbrev pub truth_word : Structure → (ℕ → Entry) → ℕ → ℕ
truth_word s entry i = word (truth s (formula_at entry i)) s.worlds

-- the first n words hold the truth table, the words behind them are as before
pub record Filled (s : Structure) (entry : ℕ → Entry) (n : ℕ) (before after : List ℕ) : Type 0 where
  pub same_length : length after ≡ length before
  pub table : (i : ℕ) → i < n → get_or after i 0 ≡ truth_word s entry i
  pub rest : (i : ℕ) → n ≤ i → get_or after i 0 ≡ get_or before i 0

-- the faults of the table, those of the structure, then 10: the lent words are fewer than the entries
abbrev pub board_verdict : List ℕ → List ℕ → ℕ → Verdict
board_verdict bytes packed words = and_then (table_verdict bytes) (and_then (structure_verdict packed) (refuse_if (ltb words (size bytes)) Space))

-- what the lent words are after an answer, and after a refusal
abbrev pub BoardAfter : List ℕ → List ℕ → List ℕ → Verdict → List ℕ → Type 0
BoardAfter bytes packed before (Ok tt) after = Filled (structure_of packed) (entry_in bytes) (size bytes) before after
BoardAfter bytes packed before (Err f) after = after ≡ before
