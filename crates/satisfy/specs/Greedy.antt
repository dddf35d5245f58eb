-- A solution that is looked for by serving one need after the other. Only what it finds is promised.
use Rattle.std.specs.Prelude.{◌≡◌, ◌⊎◌, Bool, true, List, ℕ, ◌-◌, ◌<◌, length, take}
use Rattle.sets.specs.declared.Set.{Set}
use Rattle.sets.specs.Set.{member, nothing, code, either}
use Rattle.tableau.specs.Search.{Problem, Each, Fit, Kept, Serving, Solvable}
use Rattle.counting.specs.Stack.{slots_of, FewCopies}
use Rattle.cases.specs.Levels.{Roomy, Remembers}
use Rattle.promises.specs.Promise.{Promising}

module _ (P : Problem) where
  -- the set can be kept, if it is not empty
  abbrev pub FitIfAny : Set → Type 0
  FitIfAny s = (member s ≡ nothing) ⊎ Fit P (code s)

  -- a set is to be grown by members of another
  pub record GrowAsked (low free : Set) (depth level : ℕ) (work : List ℕ) : Type 0 where
    pub promising : Promising P (either (member low) (member free)) (depth - 1)
    pub fit : FitIfAny low
    pub deep : 0 < depth
    pub room : Roomy P.entry P.n depth level (length work)
    pub memory : Remembers P.entry depth level work

  -- a set was grown; the words of the level are as before
  pub record GrownIs (depth level : ℕ) (before after : List ℕ) (r : Set) : Type 0 where
    pub promising : Promising P (member r) (depth - 1)
    pub fit : FitIfAny r
    pub same : take level after ≡ take level before
    pub memory : Remembers P.entry depth level after

  -- the slots on the stack may stand in a solution
  pub record Taken (slots : ℕ) (work : List ℕ) : Type 0 where
    pub copies : FewCopies work slots
    pub fit : Each (Fit P) (slots_of work slots)
    pub kept : Kept P (slots_of work slots)
    pub serving : Serving P (slots_of work slots)

  -- yes: there is a solution
  pub record GreedyIs (depth level : ℕ) (after : List ℕ) (r : Bool) : Type 0 where
    pub answers : r ≡ true → Solvable P
    pub memory : Remembers P.entry depth level after
