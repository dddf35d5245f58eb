-- `grade_sum` meets its contract. The invariant: the sum is that of the entries passed.
use mathlib.Core.Path.{◌≡◌}
use Prim.Native.Nat.{◌≤◌}
use Rattle.table.specs.Entry.{entry_in}
use Rattle.table.specs.Space.{sum_of_grades}
use Rattle.table.proofs.space.grade_sum.Given as goal

abbrev pub invariant-loop-i : goal.invariant-loop-i
invariant-loop-i l = (l.i ≤ l.n) × (l.sum ≡ sum_of_grades (entry_in l.table) l.i)
