-- Lists of sets of promises that can be kept, in the last words of a level.
use Rattle.std.specs.Prelude.{◌≡◌, ◌⊎◌, List, Result, Ok, Err, ℕ, suc, ◌-◌, ◌<◌, ◌≤◌, length}
use Rattle.sets.specs.declared.Set.{Set}
use Rattle.sets.specs.Set.{member, nothing, code, both}
use Rattle.tableau.specs.Search.{Problem, asking, Fit}
use Rattle.tableau.specs.Listed.{In}
use Rattle.counting.specs.declared.question.Question.{Question}
use Rattle.counting.specs.Question.{Small}
use Rattle.listed.specs.Codes.{codes_from, Appended}
use Rattle.cases.specs.Levels.{list_room, Roomy, Remembers}
use Rattle.promises.specs.declared.listing.Full.{Full}

-- k codes stand in the room for the list, at the end of the level
pub record Placed (n k level words : ℕ) : Type 0 where
  pub few : n ≤ 64
  pub some : k ≤ list_room n
  pub room : list_room n ≤ level
  pub inside : level ≤ words

-- the codes listed there
abbrev pub list_of : (n level : ℕ) → List ℕ → (k : ℕ) → List ℕ
list_of n level work k = codes_from work (level - list_room n) k

-- one more set is listed, or there is no room
abbrev pub AlsoIs : (n level k b : ℕ) (before after : List ℕ) → Result ℕ Full → Type 0
AlsoIs n level k b before after (Ok more) = (more ≡ suc k) × (suc k ≤ list_room n) × Appended before (level - list_room n) k b after
AlsoIs n level k b before after (Err full) = (full.listed ≡ k) × (after ≡ before)

-- the set is listed besides, and is not empty; or all is as before
abbrev pub AlsoNew : (n level k : ℕ) (set : Set) (before after : List ℕ) (r : ℕ) → Type 0
AlsoNew n level k set before after r =
    ((r ≡ suc k) × (suc k ≤ list_room n) × Appended before (level - list_room n) k (code set) after × (member set ≡ nothing → ⊥)) ⊎ ((r ≡ k) × (after ≡ before))

module _ (P : Problem) where
  -- k sets are listed, and all of them are fit
  pub record Lists (k level : ℕ) (work : List ℕ) : Type 0 where
    pub some : k ≤ list_room P.n
    pub fit : (b : ℕ) → In b (list_of P.n level work k) → Fit P b

  -- k fit sets are listed
  pub record FitList (k depth level : ℕ) (after : List ℕ) : Type 0 where
    pub lists : Lists k level after
    pub memory : Remembers P.entry depth level after

  -- a solution is asked for among k listed sets
  pub record SelectAsked (all : Set) (k depth level : ℕ) (work : List ℕ) : Type 0 where
    pub problem : Small P
    pub all_asking : member all ≡ asking P
    pub deep : 0 < depth
    pub room : Roomy P.entry P.n depth level (length work)
    pub memory : Remembers P.entry depth level work
    pub lists : Lists k level work

  -- weights are asked for that refute k listed sets
  pub record WeighAsked (k depth level : ℕ) (work : List ℕ) : Type 0 where
    pub problem : Small P
    pub room : Roomy P.entry P.n depth level (length work)
    pub memory : Remembers P.entry depth level work
    pub lists : Lists k level work

-- the question p of those entries of the question q that are in a set
pub record NarrowedIs (q : Question) (s : Set) (p : Question) : Type 0 where
  pub relation : p.relation ≡ q.relation
  pub yes : member p.yes ≡ both (member q.yes) (member s)
  pub no : member p.no ≡ both (member q.no) (member s)
