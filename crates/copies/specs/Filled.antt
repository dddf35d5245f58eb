-- Copies of listed sets in lent words, one number a set, and the slots that they fill.
use Rattle.std.specs.Prelude.{Bool, List, ◌∷◌, ℕ, zero, suc, ◌+◌, ◌%◌, ◌≤◌, length, get_or}
use Rattle.tableau.specs.Search.{Slot, taken, Problem, Asks}
use Rattle.counting.specs.Question.{bound_of, Holds}
use Rattle.counting.specs.Stack.{slots_of, tally_of, Few}

-- the copies of the listed set j: the word at from + j, of which only the lower 16 bits count
abbrev pub copies_at : List ℕ → (from j : ℕ) → ℕ
copies_at words from j = get_or words (from + j) 0 % 65536

-- so many of the listed set j
abbrev pub filled_at : List ℕ → (at from j : ℕ) → Slot
filled_at words at from j = taken (get_or words (at + j) 0) (copies_at words from j)

-- the slots on the stack, and those of the first k listed sets on top of them
unfoldable pub filled : List ℕ → (at k slots from : ℕ) → List Slot
filled words at zero slots from = slots_of words slots
filled words at (suc k) slots from = filled_at words at from k ∷ filled words at k slots from

-- the k codes and their copies lie in the words, and no sum of copies wraps
pub record Placed (words : List ℕ) (at k slots from : ℕ) : Type 0 where
  pub stack : Few words slots
  pub codes : at + k ≤ length words
  pub copies : from + k ≤ length words
  pub short : k ≤ 4294967296

-- the slots meet entry i, if it is a need (c true); they keep it, if it is a limit (c false)
abbrev pub HoldsAt : Problem → List Slot → (c : Bool) → ℕ → Type 0
HoldsAt P slots c i = Asks P c i → Holds c (bound_of c (P.entry i)) (tally_of c i slots)
