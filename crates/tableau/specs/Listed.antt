-- A list of sets of promises that stands for all: whatever a successor that serves a need may promise, some listed one promises no less
-- (known as dominance).
use Rattle.std.specs.Prelude.{◌≡◌, ◌⊎◌, true, false, List, [], ◌∷◌, ℕ}
use Rattle.sets.specs.Set.{Within}
use Rattle.sets.specs.Word.{bit_at}
use Rattle.tableau.specs.Counting.{hi, Row}
use Rattle.tableau.specs.Search.{Problem, Asks, FitRow, Fit}

-- the number stands in the list
abbrev pub In : ℕ → List ℕ → Type 0
In b [] = ⊥
In b (c ∷ list) = (b ≡ c) ⊎ In b list

-- the row promises every limit that allows none: a successor that does not cannot be had
abbrev pub Spares : Problem → Row → Type 0
Spares P row = (j : ℕ) → Asks P false j → hi (P.entry j) ≡ 0 → row.promises j ≡ true

-- the sets with the listed codes are fit, and a row that can be had and serves a need promises no more than one of them
pub record Covers (P : Problem) (list : List ℕ) : Type 0 where
  pub fit : (b : ℕ) → In b list → Fit P b
  pub above : (row : Row) → FitRow P row → Spares P row → (i : ℕ) → Asks P true i → row.promises i ≡ true → (b : ℕ) × In b list × Within row.promises (bit_at b)
