-- The stack of slots in lent words: a slot takes two, its code and its copies; the newest stands last.
use Rattle.std.specs.Prelude.{◌≡◌, Bool, cond, not, List, [], ◌∷◌, ℕ, zero, suc, ◌+◌, ◌*◌, ◌<◌, ◌≤◌, length, get_or}
use Rattle.tableau.specs.Counting.{total}
use Rattle.tableau.specs.Search.{Slot, taken, rows_of}

abbrev pub slot_at : List ℕ → ℕ → Slot
slot_at words j = taken (get_or words (2 * j) 0) (get_or words (2 * j + 1) 0)

-- the first k slots, the newest first
unfoldable pub slots_of : List ℕ → ℕ → List Slot
slots_of words zero = []
slots_of words (suc k) = slot_at words k ∷ slots_of words k

-- no slot has more copies than any need asks for
abbrev pub FewCopies : List ℕ → ℕ → Type 0
FewCopies words k = (j : ℕ) → j < k → (slot_at words j).copies ≤ 4096

-- few slots, with few copies: no tally of them wraps
pub record Few (words : List ℕ) (k : ℕ) : Type 0 where
  pub slots : k ≤ 262144
  pub copies : FewCopies words k

-- those that promise are counted (promised true), or those that do not
abbrev pub counts : (promised promises : Bool) → Bool
counts promised promises = cond promised promises (not promises)

-- how many successors of the slots are counted for entry i
abbrev pub tally_of : (promised : Bool) → ℕ → List Slot → ℕ
tally_of promised i slots = total (λ row. counts promised (row.promises i)) (rows_of slots)

-- m copies of the set b were written as slot k
pub record Put (before : List ℕ) (k b m : ℕ) (after : List ℕ) : Type 0 where
  pub same_length : length after ≡ length before
  pub here : slot_at after k ≡ taken b m
  pub below : (j : ℕ) → j < k → slot_at after j ≡ slot_at before j
  pub behind : (i : ℕ) → 2 * k + 2 ≤ i → get_or after i 0 ≡ get_or before i 0
