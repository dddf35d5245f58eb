-- Entries without a fault of their own: what the decision counts on in an accepted table. An inner contract.
use Rattle.std.specs.Prelude.{◌≡◌, true, ℕ, ◌<◌}
use Rattle.table.specs.declared.entry.Entry.{Entry}
use Rattle.table.specs.Check.{uses_of}

-- an entry without a fault of its own, as number i of a table
pub record Fitting (e : Entry) (i : ℕ) : Type 0 where
  pub kind : e.kind < 8
  pub first : (uses_of e.kind).first ≡ true → e.first < i
  pub second : (uses_of e.kind).second ≡ true → e.second < i

-- the first n entries are such
abbrev pub WellFormed : (ℕ → Entry) → ℕ → Type 0
WellFormed entry n = (i : ℕ) → i < n → Fitting (entry i) i
