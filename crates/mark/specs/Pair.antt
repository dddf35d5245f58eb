-- Two entries of an accepted table, as the mark asks about them. An inner contract.
use Rattle.std.specs.Prelude.{◌≡◌, List, ℕ, ◌≤◌}
use Rattle.table.specs.declared.entry.Entry.{Entry}
use Rattle.table.specs.Entry.{entry_in, size}
use Rattle.table.specs.Space.{table_work}
use Rattle.table.specs.Check.{table_verdict}
use Rattle.decision.specs.Ask.{Prepared, There}
use Rattle.faults.specs.Verdict.{accepted}

-- the table is accepted, both entries are there and no deeper than the depth, and there are W words for that depth
pub record PairAsked (bytes : List ℕ) (a b depth words : ℕ) : Type 0 where
  pub accepted : table_verdict bytes ≡ accepted
  pub first : There (entry_in bytes) (size bytes) depth a
  pub second : There (entry_in bytes) (size bytes) depth b
  pub enough : table_work bytes depth ≤ words

-- the same of the entries that the table is unpacked into
pub record PairPrepared (entry : ℕ → Entry) (n a b depth level : ℕ) (words : List ℕ) : Type 0 where
  pub ready : Prepared entry n depth level words
  pub first : There entry n depth a
  pub second : There entry n depth b
