-- A relation's answer may be kept under the question of its needs and limits alone, and found there again.
use mathlib.Core.Bool.{Bool}
use mathlib.Core.List.{List}
use Prim.Native.Nat.{ℕ}
use Rattle.sets.specs.declared.Set.{Set}
use Rattle.sets.specs.Set.{member}
use Rattle.wide.specs.Wide.{wide_in}
use Rattle.semantics.specs.Answer.{Answers}
use Rattle.tableau.specs.Wants.{Sat}
use Rattle.tableau.specs.Search.{Solvable}
use Rattle.tableau.proofs.Alone.{alone_told, alone_recalled}
use Rattle.counting.specs.declared.question.Question.{Question}
use Rattle.counting.specs.Question.{problem_of}
use Rattle.promises.specs.Listing.{NarrowedIs}
use Rattle.satisfy.specs.Asking.{RelationAsked}

module _ (entries : List ℕ) {q p : Question} {all : Set} {depth level : ℕ} {work : List ℕ} (asked : RelationAsked (problem_of entries q) all depth level work)
    (narrow : NarrowedIs q all p) where
  pub relation_recalled : (a : Bool) → Answers a (Sat (wide_in entries) (member p.yes) (member p.no)) → Answers a (Solvable (problem_of entries q))
  relation_recalled a known =
      alone_recalled (wide_in entries) (member q.yes) (member q.no) q.relation asked.problem.promising.formed asked.problem.promising.below asked.positive a
      (rw (narrow.yes, narrow.no, asked.problem.all_asking) at known)

  pub relation_told : (a : Bool) → Answers a (Solvable (problem_of entries q)) → Answers a (Sat (wide_in entries) (member p.yes) (member p.no))
  relation_told a found =
      rw (narrow.yes, narrow.no, asked.problem.all_asking)
      (alone_told (wide_in entries) (member q.yes) (member q.no) q.relation asked.problem.promising.formed asked.problem.promising.below asked.positive a found)
