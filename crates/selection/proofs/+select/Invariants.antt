-- The proof of the cycle of calls {select, branch, vary, rise, fall, tried}. The measure: the codes that are left, and how far the next has been taken.
use Prim.Native.Nat.{◌+◌, ◌*◌, ◌≤◌}
use Rattle.sets.specs.Set.{code}
use Rattle.counting.specs.Question.{problem_of}
use Rattle.selection.proofs.Varying.{Without}
use Rattle.selection.proofs.+select.Given as goal

abbrev pub decreases-branch : goal.decreases-branch
decreases-branch l = l.k * 6 + 4

abbrev pub decreases-fall : goal.decreases-fall
decreases-fall l = l.k * 6 + 2

abbrev pub decreases-rise : goal.decreases-rise
decreases-rise l = l.k * 6 + 2

abbrev pub decreases-select : goal.decreases-select
decreases-select l = l.k * 6

abbrev pub decreases-tried : goal.decreases-tried
decreases-tried l = l.k * 6 + 1

abbrev pub decreases-vary : goal.decreases-vary
decreases-vary l = l.k * 6 + 3

abbrev pub invariant-fall-loop-m : goal.invariant-fall-loop-m
invariant-fall-loop-m l = (l.m ≤ l.end) × Without (problem_of l.entries l.q) l.initial.words l.at l.k l.slots (code l.b) l.m l.end l.words

abbrev pub invariant-rise-loop-m : goal.invariant-rise-loop-m
invariant-rise-loop-m l = (l.start ≤ l.m) × Without (problem_of l.entries l.q) l.initial.words l.at l.k l.slots (code l.b) l.start l.m l.words
