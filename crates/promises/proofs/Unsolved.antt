-- What may be learnt where the needs and limits of a question have no solution.
use mathlib.Core.Path.{◌≡◌}
use mathlib.Core.List.{List}
use Prim.Native.Nat.{ℕ}
use Rattle.sets.specs.declared.Set.{Set}
use Rattle.sets.specs.Set.{member}
use Rattle.wide.specs.Wide.{wide_in}
use Rattle.tableau.specs.Wants.{Sat}
use Rattle.table.specs.Formed.{WellFormed}
use Rattle.tableau.specs.Search.{asking, Solvable}
use Rattle.tableau.proofs.Alone.{alone_solution}
use Rattle.counting.specs.declared.question.Question.{Question}
use Rattle.counting.specs.Question.{problem_of, Small}
use Rattle.promises.specs.Listing.{NarrowedIs}

-- needs and limits without a solution: no world is as they alone want
pub refuted_told : (entries : List ℕ) {q p : Question} {all : Set} → WellFormed (wide_in entries) (problem_of entries q).n → Small (problem_of entries q)
    → member all ≡ asking (problem_of entries q) → NarrowedIs q all p → (Solvable (problem_of entries q) → ⊥)
    → Sat (wide_in entries) (member p.yes) (member p.no) → ⊥
refuted_told entries {q} formed small is narrow none sat =
    none (alone_solution (wide_in entries) (member q.yes) (member q.no) q.relation formed small.below (rw (narrow.yes, narrow.no, is) at sat))
