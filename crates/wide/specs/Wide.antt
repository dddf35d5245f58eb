-- The wide layout: an entry in a 64-bit word, with room for more entries, facts and grades than the packed table has.
-- And what words made from a table promise.
use Rattle.std.specs.Prelude.{◌≡◌, List, ℕ, ◌<◌, ◌≤◌, get_or}
use Rattle.semantics.specs.Formula.{Formula, depth}
use Rattle.semantics.specs.Structure.{Structure}
use Rattle.semantics.specs.Truth.{truth}
use Rattle.packed.specs.Field.{field}
use Rattle.table.specs.declared.entry.Entry.{Entry}
use Rattle.table.specs.Entry.{entry_in}
use Rattle.table.specs.Formulas.{formula_at}
use Rattle.table.specs.Space.{weight}
use Rattle.table.specs.Formed.{WellFormed}

-- kind 4 bits, name 16, another name 16 that is not used yet, first 8, second 8, grade 12, most significant first
abbrev pub wide_of : ℕ → Entry
wide_of word =
    record { kind = field word 60 4; name = field word 44 16; first = field word 20 8; second = field word 12 8; grade = field word 0 12 }

-- entry i of the words
abbrev pub wide_in : List ℕ → ℕ → Entry
wide_in words i = wide_of (get_or words i 0)

-- an entry whose fields have room in a word
pub record FitsWide (e : Entry) : Type 0 where
  pub kind : e.kind < 16
  pub name : e.name < 65536
  pub first : e.first < 256
  pub second : e.second < 256
  pub grade : e.grade < 4096

-- a formula that may stand for another one: true at the same worlds of every structure, and no deeper
pub record StandsFor (φ ψ : Formula) : Type 0 where
  pub same : (s : Structure) (w : ℕ) → truth s φ w ≡ truth s ψ w
  pub shallow : depth φ ≤ depth ψ

-- the words hold n entries, each of which may stand for the entry of its number in a table, and 0 behind them
pub record Widened (bytes : List ℕ) (n : ℕ) (words : List ℕ) : Type 0 where
  pub formed : WellFormed (wide_in words) n
  pub weight : (i : ℕ) → i < n → weight (wide_in words i) ≡ weight (entry_in bytes i)
  pub stands : (i : ℕ) → i < n → StandsFor (formula_at (wide_in words) i) (formula_at (entry_in bytes) i)
  pub behind : (i : ℕ) → n ≤ i → get_or words i 0 ≡ 0
