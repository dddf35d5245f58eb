-- What the calls on entries of a table share: document 01's W, the order of their faults, and the words at exit.
use Rattle.std.specs.Prelude.{Result, Ok, Err, ◌≡◌, ◌||◌, List, ℕ, ◌<◌, ◌≤◌, max, leb, ltb, length, get_or}
use Rattle.faults.specs.declared.Fault.{Fault}
use Rattle.faults.specs.declared.Fault.TheVariants.{EntryNumber, Space}
use Rattle.faults.specs.Verdict.{Verdict, accepted, refuse_if, and_then}
use Rattle.table.specs.Entry.{entry_in, size}
use Rattle.table.specs.Formulas.{depth_at}
use Rattle.table.specs.Space.{table_work}
use Rattle.table.specs.Check.{table_verdict}

-- document 01's W for a call on the entries a and b, by the greater depth of the two
abbrev pub pair_work : List ℕ → ℕ → ℕ → ℕ
pair_work bytes a b = table_work bytes (max (depth_at (entry_in bytes) a) (depth_at (entry_in bytes) b))

-- the faults of the table, then 9: one of the entries is not there
abbrev pub pair_there : List ℕ → ℕ → ℕ → Verdict
pair_there bytes a b = and_then (table_verdict bytes) (refuse_if (leb (size bytes) a || leb (size bytes) b) EntryNumber)

-- these, then 10: the lent words are fewer than W
abbrev pub pair_verdict : List ℕ → ℕ → ℕ → ℕ → Verdict
pair_verdict bytes a b words = and_then (pair_there bytes a b) (refuse_if (ltb words (pair_work bytes a b)) Space)

-- W, or why there is none
abbrev pub NeededIs : List ℕ → ℕ → ℕ → Result ℕ Fault → Type 0
NeededIs bytes a b (Ok w) = (pair_there bytes a b ≡ accepted) × (w ≡ pair_work bytes a b)
NeededIs bytes a b (Err f) = pair_there bytes a b ≡ Err f

-- the first n words are 0, the others are as before
pub record Cleared (n : ℕ) (before after : List ℕ) : Type 0 where
  pub same_length : length after ≡ length before
  pub zero : (i : ℕ) → i < n → get_or after i 0 ≡ 0
  pub rest : (i : ℕ) → n ≤ i → get_or after i 0 ≡ get_or before i 0
