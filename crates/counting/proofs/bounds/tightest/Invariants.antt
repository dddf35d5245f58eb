-- `tightest` meets its contract. The invariant: what is found is what the entries passed leave.
use Prim.Native.Nat.{◌<◌, ◌≤◌}
use lib.ListN.{length}
use Rattle.sets.specs.Set.{code}
use Rattle.counting.specs.Question.{problem_of}
use Rattle.counting.specs.Stack.{slots_of}
use Rattle.counting.specs.Bounds.{Left}
use Rattle.counting.proofs.bounds.tightest.Given as goal

abbrev pub invariant-loop-i : goal.invariant-loop-i
invariant-loop-i l = (l.i ≤ length l.entries) × Left (problem_of l.entries l.q) (slots_of l.words l.k) (code l.b) l.need (λ j. j < l.i) l.found
