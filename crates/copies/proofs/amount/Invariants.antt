-- `amount` meets its contract. The invariant: the sum is that of the slots and of the sets passed, less than 65536 for each of these.
use mathlib.Core.Path.{◌≡◌}
use Prim.Native.Nat.{◌+◌, ◌*◌, ◌≤◌}
use Rattle.counting.specs.Stack.{tally_of}
use Rattle.copies.specs.Filled.{filled}
use Rattle.copies.proofs.amount.Given as goal

abbrev pub invariant-loop-j : goal.invariant-loop-j
invariant-loop-j l =
    (l.j ≤ l.k) × (l.sum ≤ 1073741824 + 65536 * l.j) × (l.sum ≡ tally_of l.promised l.i (filled l.words l.at l.j l.slots l.from))
