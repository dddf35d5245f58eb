-- `promised` meets its contract. The invariant: the promises passed are wanted, and nothing that does not follow from all of them.
use lib.ListN.{length}
use Rattle.semantics.specs.Count.{count}
use Rattle.sets.specs.Set.{member}
use Rattle.counting.specs.Question.{problem_of}
use Rattle.promises.specs.Promise.{Partly}
use Rattle.promises.proofs.promise.promised.Given as goal

abbrev pub invariant-loop-i : goal.invariant-loop-i
invariant-loop-i l = Partly (problem_of l.entries l.q) (member l.initial.rest) (member l.rest) l.depth l.v

abbrev pub decreases-loop-i : goal.decreases-loop-i
decreases-loop-i l = count (member l.rest) (length l.entries)
