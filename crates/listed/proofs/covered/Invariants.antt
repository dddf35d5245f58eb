-- `covered` meets its contract: the set at hand is listed.
use Prim.Native.Nat.{◌≤◌}
use Rattle.listed.proofs.covered.Given as goal

abbrev pub invariant-loop-j : goal.invariant-loop-j
invariant-loop-j l = l.j ≤ l.k
