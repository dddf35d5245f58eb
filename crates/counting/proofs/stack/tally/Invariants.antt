-- `tally` meets its contract. The invariant: the sum is that of the slots passed, at most 4096 for each.
use mathlib.Core.Path.{◌≡◌}
use Prim.Native.Nat.{◌*◌, ◌≤◌}
use Rattle.counting.specs.Stack.{slots_of, tally_of}
use Rattle.counting.proofs.stack.tally.Given as goal

abbrev pub invariant-loop-j : goal.invariant-loop-j
invariant-loop-j l =
    (l.j ≤ l.k) × (l.sum ≤ 4096 * l.j) × (l.sum ≡ tally_of l.promised l.i (slots_of l.words l.j))
