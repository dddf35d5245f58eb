-- `those` meets its contract. The invariant: of the numbers passed, those that pass the test have been put in.
use Rattle.sets.specs.Set.{member}
use Rattle.counting.specs.Question.{Those}
use Rattle.counting.proofs.question.those.Given as goal

abbrev pub invariant-loop-i : goal.invariant-loop-i
invariant-loop-i g l = Those l.i (goal.F-post g l.passes) (member l.found)
