-- `counted` meets its contract. The invariant: the counting entries of those passed have been put in.
use Prim.Native.Nat.{◌≤◌}
use lib.ListN.{length}
use Rattle.sets.specs.Set.{member}
use Rattle.wide.specs.Wide.{wide_in}
use Rattle.counting.proofs.Asking.{Upto}
use Rattle.promises.specs.Relation.{counting}
use Rattle.promises.proofs.relation.counted.Given as goal

abbrev pub invariant-loop-i : goal.invariant-loop-i
invariant-loop-i l = (l.i ≤ length l.entries) × Upto (λ j. counting l.w (wide_in l.entries j) j) l.i (member l.found)
