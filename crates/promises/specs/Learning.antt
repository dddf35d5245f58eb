-- What is learnt while worlds are looked for.
use Rattle.std.specs.Prelude.{◌≡◌, List, ℕ, length, take}
use Rattle.table.specs.declared.entry.Entry.{Entry}
use Rattle.table.specs.Formed.{WellFormed}
use Rattle.tableau.specs.Search.{Problem, Solvable}
use Rattle.counting.specs.Question.{Small}
use Rattle.wants.specs.declared.Wants.{Wants}
use Rattle.cases.specs.World.{SatW}
use Rattle.cases.specs.Levels.{Roomy, Remembers}

-- some world is as wanted
pub record WorldFound (entry : ℕ → Entry) (n : ℕ) (w : Wants) (depth level : ℕ) (work : List ℕ) : Type 0 where
  pub found : SatW entry w
  pub room : Roomy entry n depth level (length work)
  pub memory : Remembers entry depth level work

-- the problem has no solution
pub record NoneFound (P : Problem) (depth level : ℕ) (work : List ℕ) : Type 0 where
  pub none : Solvable P → ⊥
  pub formed : WellFormed P.entry P.n
  pub small : Small P
  pub room : Roomy P.entry P.n depth level (length work)
  pub memory : Remembers P.entry depth level work

-- the words of the level are as before, and the answers kept behind the levels are right
pub record Learnt (entry : ℕ → Entry) (depth level : ℕ) (before after : List ℕ) : Type 0 where
  pub same : take level after ≡ take level before
  pub memory : Remembers entry depth level after
