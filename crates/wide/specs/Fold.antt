-- References that are turned to earlier places. Inner contracts.
use Rattle.std.specs.Prelude.{◌≡◌, ◌⊎◌, Bool, true, false, not, ℕ, ◌<◌, ◌≤◌}
use Rattle.table.specs.declared.entry.Entry.{Entry}
use Rattle.table.specs.Formulas.{formula_at}
use Rattle.wide.specs.Wide.{StandsFor}

-- the kind of an "and" for true, of an "or" for false; and that of a constant
abbrev pub join_kind : Bool → ℕ
join_kind true = 4
join_kind false = 5

abbrev pub constant_kind : Bool → ℕ
constant_kind true = 0
constant_kind false = 1

-- of the parts of a join, of these kinds, the first may be left out: it is the constant that adds nothing, or the other one decides
abbrev pub Spare : (b : Bool) → (kind other : ℕ) → Type 0
Spare b kind other = (kind ≡ constant_kind b) ⊎ (other ≡ constant_kind (not b))

module _ (entry : ℕ → Entry) (n : ℕ) where
  -- a reference to place r is turned to place j, which may stand for it if it is one of the first n
  pub record Turned (j r : ℕ) : Type 0 where
    pub back : j ≤ r
    pub stands : r < n → StandsFor (formula_at entry j) (formula_at entry r)

  -- an entry e with its references turned
  pub record Folded (e folded : Entry) : Type 0 where
    pub kind : folded.kind ≡ e.kind
    pub name : folded.name ≡ e.name
    pub grade : folded.grade ≡ e.grade
    pub first : Turned folded.first e.first
    pub second : Turned folded.second e.second
