-- What the relaxation of a search is given, and what it answers. The words behind the list are there to be written.
use Rattle.std.specs.Prelude.{◌≡◌, List, ℕ, ◌+◌, ◌*◌, ◌<◌, ◌≤◌, length, get_or}
use Rattle.tableau.specs.Search.{Slot, Problem, Extension}
use Rattle.counting.specs.Question.{Small}
use Rattle.counting.specs.Stack.{slots_of, Few}
use Rattle.listed.specs.Codes.{codes_from}
use Rattle.relaxing.specs.declared.Relaxed.{Relaxed}

-- the slots stand below the k codes from a place on
pub record Relaxing (P : Problem) (words : List ℕ) (at k slots : ℕ) : Type 0 where
  pub problem : Small P
  pub few : Few words slots
  pub below : 2 * slots ≤ at
  pub inside : at + k ≤ length words

-- the slots stand below a place from which on there are words for what each entry leaves
pub record Scratch (words : List ℕ) (slots end : ℕ) : Type 0 where
  pub few : Few words slots
  pub below : 2 * slots ≤ end
  pub room : end + 64 ≤ length words

-- the words below a place are as before
pub record SameBelow (end : ℕ) (before after : List ℕ) : Type 0 where
  pub word : (i : ℕ) → i < end → get_or after i 0 ≡ get_or before i 0

-- refuted: no copies of the listed sets extend the slots to a solution; solved: some do
abbrev pub RelaxedIs : Problem → List Slot → List ℕ → Relaxed → Type 0
RelaxedIs P slots list Relaxed.Refuted = Extension P slots list → ⊥
RelaxedIs P slots list Relaxed.Solved = Extension P slots list
RelaxedIs P slots list (Relaxed.Unknown j first) = Unit {0}

pub record Seen (P : Problem) (before : List ℕ) (at k slots : ℕ) (r : Relaxed) (after : List ℕ) : Type 0 where
  pub answers : RelaxedIs P (slots_of before slots) (codes_from before at k) r
  pub same : SameBelow (at + k) before after
