-- What the functions of the decision that call each other ask, and what they answer.
use Rattle.std.specs.Prelude.{◌≡◌, Bool, true, false, List, ℕ, ◌-◌, ◌<◌, length, take}
use Rattle.sets.specs.declared.Set.{Set}
use Rattle.sets.specs.Set.{member, nothing, code, Within}
use Rattle.table.specs.declared.entry.Entry.{Entry}
use Rattle.semantics.specs.Answer.{Answers}
use Rattle.tableau.specs.Counting.{Solution}
use Rattle.tableau.specs.Search.{Problem, asking, Fit, Solvable}
use Rattle.wants.specs.declared.Wants.{Wants}
use Rattle.cases.specs.World.{SatW, Ready}
use Rattle.cases.specs.Levels.{Roomy, Remembers}
use Rattle.promises.specs.Promise.{Promising}
use Rattle.promises.specs.Relation.{counting}

module _ (entry : ℕ → Entry) where
  -- the relations are asked for solutions, whatever is pending
  pub record CountAsked (n : ℕ) (w : Wants) (depth level : ℕ) (work : List ℕ) : Type 0 where
    pub ready : Ready entry n w 64 depth
    pub room : Roomy entry n depth level (length work)
    pub memory : Remembers entry depth level work

  -- nothing is pending
  pub record LeafAsked (n : ℕ) (w : Wants) (depth level : ℕ) (work : List ℕ) : Type 0 where
    pub count : CountAsked n w depth level work
    pub none : member w.pending ≡ nothing

  -- the relations of the counting entries that are not in `rest` have solutions
  pub record Solving (w : Wants) (rest : ℕ → Bool) : Type 0 where
    pub within : Within rest (λ i. counting w (entry i) i)
    pub solved : (i : ℕ) → counting w (entry i) i ≡ true → rest i ≡ false → Solution entry (member w.yes) (member w.no) (entry i).name

  -- every relation has a solution
  abbrev pub AllSolved : Wants → Type 0
  AllSolved w = (i : ℕ) → counting w (entry i) i ≡ true → Solution entry (member w.yes) (member w.no) (entry i).name

  -- yes: every relation has a solution; no: no world is as wanted
  abbrev pub CountAnswers : Wants → Bool → Type 0
  CountAnswers w true = AllSolved w
  CountAnswers w false = SatW entry w → ⊥

module _ (P : Problem) where
  -- a problem at a world of this depth, which is not 0
  pub record ProblemAsked (all : Set) (depth level : ℕ) (work : List ℕ) : Type 0 where
    pub promising : Promising P (asking P) (depth - 1)
    pub deep : 0 < depth
    pub all_asking : member all ≡ asking P
    pub room : Roomy P.entry P.n depth level (length work)
    pub memory : Remembers P.entry depth level work

  -- some of its needs and limits are tried alone
  pub record RefuteAsked (depth level : ℕ) (work : List ℕ) : Type 0 where
    pub promising : Promising P (asking P) (depth - 1)
    pub deep : 0 < depth
    pub room : Roomy P.entry P.n depth level (length work)
    pub memory : Remembers P.entry depth level work

  -- the same, where none of the limits is "not at least 0", which no world meets
  pub record RelationAsked (all : Set) (depth level : ℕ) (work : List ℕ) : Type 0 where
    pub problem : ProblemAsked all depth level work
    pub positive : (i : ℕ) → P.no i ≡ true → (P.entry i).kind ≡ 6 → (P.entry i).grade ≡ 0 → ⊥

  -- promises of needs and limits of the problem
  pub record PromisesAsked (promises : Set) (depth level : ℕ) (work : List ℕ) : Type 0 where
    pub promising : Promising P (member promises) (depth - 1)
    pub deep : 0 < depth
    pub room : Roomy P.entry P.n depth level (length work)
    pub memory : Remembers P.entry depth level work

  -- can the promises be kept; the words of the level are as before
  pub record Kept (promises : Set) (depth level : ℕ) (before after : List ℕ) (r : Bool) : Type 0 where
    pub answers : Answers r (Fit P (code promises))
    pub same : take level after ≡ take level before
    pub memory : Remembers P.entry depth level after

  -- the problem is known to have no solution; the words of the level are as before
  pub record Opposed (depth level : ℕ) (before after : List ℕ) (r : Bool) : Type 0 where
    pub answers : r ≡ true → Solvable P → ⊥
    pub same : take level after ≡ take level before
    pub memory : Remembers P.entry depth level after
