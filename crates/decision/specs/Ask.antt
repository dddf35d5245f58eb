-- Questions about the entries of a table, one after the other in the same words. An inner contract.
use Rattle.std.specs.Prelude.{◌≡◌, Bool, true, List, ℕ, ◌<◌, ◌≤◌, length}
use Rattle.table.specs.declared.entry.Entry.{Entry}
use Rattle.table.specs.Formulas.{depth_at}
use Rattle.table.specs.Formed.{WellFormed}
use Rattle.tableau.specs.Wants.{wanted}
use Rattle.cases.specs.Levels.{Roomy, Remembers}

-- entries of this depth and less may be asked about: there are words enough, and what they remember is right
pub record Prepared (entry : ℕ → Entry) (n depth level : ℕ) (words : List ℕ) : Type 0 where
  pub formed : WellFormed entry n
  pub few : n ≤ 64
  pub room : Roomy entry n depth level (length words)
  pub memory : Remembers entry depth level words

-- the entry is there and no deeper than the depth
abbrev pub There : (ℕ → Entry) → (n depth e : ℕ) → Type 0
There entry n depth e = (e < n) × (depth_at entry e ≤ depth)

-- so are the entries wanted true and those wanted false
abbrev pub AllThere : (ℕ → Entry) → (n depth : ℕ) → (ts fs : ℕ → Bool) → Type 0
AllThere entry n depth ts fs = (b : Bool) (i : ℕ) → wanted ts fs b i ≡ true → There entry n depth i
