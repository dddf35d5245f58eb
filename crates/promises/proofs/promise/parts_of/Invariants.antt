-- `parts_of` meets its contract. The invariant: the parts of the promises passed are found, and only parts of promises.
use mathlib.Core.Bool.{true, false}
use lib.ListN.{length}
use Rattle.semantics.specs.Count.{count}
use Rattle.sets.specs.Set.{member}
use Rattle.counting.specs.Question.{problem_of}
use Rattle.promises.proofs.Parts.{Collected}
use Rattle.promises.proofs.promise.parts_of.Given as goal

abbrev pub invariant-loop-i : goal.invariant-loop-i
invariant-loop-i l =
    Collected (problem_of l.entries l.q) (member l.initial.rest) (member l.rest) true (member l.yes) × Collected (problem_of l.entries l.q) (member l.initial.rest) (member l.rest) false (member l.no)

abbrev pub decreases-loop-i : goal.decreases-loop-i
decreases-loop-i l = count (member l.rest) (length l.entries)
