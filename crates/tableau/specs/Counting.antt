-- What is wanted of the successors of a world: needs and limits (known as qualified number restrictions), the promises that a successor keeps, and rows
-- of successors that keep the same.
use Rattle.std.specs.Prelude.{◌≡◌, Bool, true, false, cond, not, ◌&&◌, ◌||◌, List, [], ◌∷◌, ℕ, suc, ◌+◌, ◌-◌, ◌<◌, ◌≤◌, eqb}
use Rattle.semantics.specs.Formula.{Formula}
use Rattle.semantics.specs.Structure.{Structure}
use Rattle.semantics.specs.Truth.{truth}
use Rattle.semantics.specs.Count.{gain}
use Rattle.table.specs.declared.entry.Entry.{Entry}
use Rattle.table.specs.Formulas.{formula_at}

-- The kind of an entry that is a need (c true) or a limit (c false) by being wanted b.
-- Needs are at least and not at most, limits are at most and not at least.
abbrev pub bound_kind : (b c : Bool) → ℕ
bound_kind true true = 6
bound_kind true false = 7
bound_kind false true = 7
bound_kind false false = 6

module _ (yes no : ℕ → Bool) (e : Entry) (i : ℕ) where
  -- is entry i, with the fields e, a need (c true); is it a limit (c false)
  abbrev pub bound : (c : Bool) → Bool
  bound c = (yes i && eqb e.kind (bound_kind true c)) || (no i && eqb e.kind (bound_kind false c))

  abbrev pub need : Bool
  need = bound true

  abbrev pub limit : Bool
  limit = bound false

  -- is it a need or limit on the successors by the relation r
  abbrev pub speaks : ℕ → Bool
  speaks r = eqb e.name r && (need || limit)

-- how many successors a need asks for; how many a limit allows
abbrev pub lo : Entry → ℕ
lo e = cond (eqb e.kind 6) e.grade (suc e.grade)

abbrev pub hi : Entry → ℕ
hi e = cond (eqb e.kind 6) (e.grade - 1) e.grade

-- the formula that a counting entry speaks of
abbrev pub part_of : (ℕ → Entry) → ℕ → Formula
part_of entry i = formula_at entry (entry i).first

-- so many successors that keep the same promises
pub record Row : Type 0 where
  pub promises : ℕ → Bool
  pub copies : ℕ

-- how many successors are in the rows that pass a test
unfoldable pub total : (Row → Bool) → List Row → ℕ
total p [] = 0
total p (row ∷ rows) = gain (p row) row.copies + total p rows

-- how many promise entry i; how many do not
abbrev pub served : ℕ → List Row → ℕ
served i = total (λ row. row.promises i)

abbrev pub spent : ℕ → List Row → ℕ
spent i = total (λ row. not (row.promises i))

-- it holds of every row
abbrev pub All : (Row → Type 0) → List Row → Type 0
All P [] = Unit {0}
All P (row ∷ rows) = P row × All P rows

module _ (entry : ℕ → Entry) (yes no : ℕ → Bool) where
  -- Some world of some structure keeps the promises: the part of a promised need is true there, that of a promised limit is false.
  pub record Feasible (promises : ℕ → Bool) : Type 0 where
    pub structure : Structure
    pub world : ℕ
    pub inside : world < structure.worlds
    pub keeps : (c : Bool) (i : ℕ) → promises i ≡ true → bound yes no (entry i) i c ≡ true → truth structure (part_of entry i) world ≡ c

  -- the row may stand in a solution for the relation r
  pub record Usable (r : ℕ) (row : Row) : Type 0 where
    pub within : (i : ℕ) → row.promises i ≡ true → speaks yes no (entry i) i r ≡ true
    pub feasible : Feasible row.promises

  -- Rows of successors by the relation r that meet every need and keep every limit, whatever is true there of what they do not promise:
  -- only those that promise a need count for it, and all that do not promise a limit count against it.
  pub record Solution (r : ℕ) : Type 0 where
    pub rows : List Row
    pub usable : All (Usable r) rows
    pub met : (i : ℕ) → need yes no (entry i) i ≡ true → (entry i).name ≡ r → lo (entry i) ≤ served i rows
    pub kept : (i : ℕ) → limit yes no (entry i) i ≡ true → (entry i).name ≡ r → spent i rows ≤ hi (entry i)
