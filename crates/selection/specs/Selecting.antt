-- What the search over a list of sets is given, and what it answers. The stack of slots stands in the first words, the codes of the list behind it.
use Rattle.std.specs.Prelude.{◌≡◌, Bool, true, false, List, ◌∷◌, ℕ, ◌+◌, ◌*◌, ◌<◌, ◌≤◌, length, get_or}
use Rattle.table.specs.Space.{sum_of_grades}
use Rattle.sets.specs.declared.Set.{Set}
use Rattle.sets.specs.Set.{member}
use Rattle.semantics.specs.Answer.{Answers}
use Rattle.tableau.specs.Search.{Slot, taken, Problem, asking, Kept, Solvable, Fit, Lacks, Serving, Extension}
use Rattle.tableau.specs.Listed.{In, Covers}
use Rattle.counting.specs.Question.{Small}
use Rattle.counting.specs.Stack.{slot_at, slots_of, FewCopies}
use Rattle.listed.specs.Codes.{codes_from}

-- the words that the stack may take
abbrev pub stack_room : Problem → ℕ
stack_room P = 2 * sum_of_grades P.entry P.n + 2

-- the k codes from a place on stand behind the stack
pub record Behind (P : Problem) (words : List ℕ) (at k : ℕ) : Type 0 where
  pub room : stack_room P ≤ at
  pub inside : at + k ≤ length words

-- a list of fit sets, and nothing on the stack
pub record ListAsked (P : Problem) (all : Set) (words : List ℕ) (at k : ℕ) : Type 0 where
  pub problem : Small P
  pub all_asking : member all ≡ asking P
  pub behind : Behind P words at k
  pub fit : (b : ℕ) → In b (codes_from words at k) → Fit P b

-- yes: there is a solution; no: there is none, if the list stands for all sets
abbrev pub SolvedIs : Problem → List ℕ → Bool → Type 0
SolvedIs P list true = Solvable P
SolvedIs P list false = Covers P list → Solvable P → ⊥

-- so many slots are on the stack, and the k listed sets from a place on are yet to be taken
pub record Selecting (P : Problem) (all : Set) (words : List ℕ) (at k slots : ℕ) : Type 0 where
  pub problem : Small P
  pub all_asking : member all ≡ asking P
  pub behind : Behind P words at k
  pub copies : FewCopies words slots
  pub kept : Kept P (slots_of words slots)
  pub serving : Serving P (slots_of words slots)

-- besides, m copies of the set b, which can be had; if there are some, they serve
pub record Varying (P : Problem) (all : Set) (words : List ℕ) (at k slots b m : ℕ) : Type 0 where
  pub selecting : Selecting P all words at k slots
  pub kept : Kept P (taken b m ∷ slots_of words slots)
  pub serves : 0 < m → Lacks P (slots_of words slots) b
  pub small : m ≤ 4096

-- with some number of copies of the set b, from low on and below high, listed sets extend the slots to a solution
abbrev pub Between : Problem → List Slot → (b low high : ℕ) → List ℕ → Type 0
Between P slots b low high list = (m : ℕ) × (low ≤ m) × (m < high) × Extension P (taken b m ∷ slots) list

-- the words at two places have been exchanged
pub record Swapped (before : List ℕ) (i j : ℕ) (after : List ℕ) : Type 0 where
  pub first : get_or after i 0 ≡ get_or before j 0
  pub second : get_or after j 0 ≡ get_or before i 0
  pub elsewhere : (l : ℕ) → (l ≡ i → ⊥) → (l ≡ j → ⊥) → get_or after l 0 ≡ get_or before l 0

-- the slots are as before, and so is what stands behind the stack up to the list's end
pub record Unchanged (P : Problem) (slots end : ℕ) (before after : List ℕ) : Type 0 where
  pub below : (j : ℕ) → j < slots → slot_at after j ≡ slot_at before j
  pub above : (i : ℕ) → stack_room P ≤ i → i < end → get_or after i 0 ≡ get_or before i 0

-- the answers
pub record Selected (P : Problem) (before : List ℕ) (at k slots : ℕ) (r : Bool) (after : List ℕ) : Type 0 where
  pub answers : Answers r (Extension P (slots_of before slots) (codes_from before at k))
  pub unchanged : Unchanged P slots (at + k) before after

pub record Tried (P : Problem) (before : List ℕ) (at k slots b m : ℕ) (r : Bool) (after : List ℕ) : Type 0 where
  pub answers : Answers r (Extension P (taken b m ∷ slots_of before slots) (codes_from before at k))
  pub unchanged : Unchanged P slots (at + k) before after

pub record Varied (P : Problem) (before : List ℕ) (at k slots b low high : ℕ) (r : Bool) (after : List ℕ) : Type 0 where
  pub answers : Answers r (Between P (slots_of before slots) b low high (codes_from before at k))
  pub unchanged : Unchanged P slots (at + k) before after
