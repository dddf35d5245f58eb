-- `completes` meets its contract. The invariant: of the entries passed, with the copies, the needs are met and the limits are kept.
use mathlib.Core.Bool.{true, false}
use Prim.Native.Nat.{ℕ, ◌<◌, ◌≤◌}
use lib.ListN.{length}
use Rattle.counting.specs.Question.{problem_of}
use Rattle.copies.specs.Filled.{filled, HoldsAt}
use Rattle.copies.proofs.completes.Given as goal

abbrev pub invariant-loop-i : goal.invariant-loop-i
invariant-loop-i l =
    (l.i ≤ length l.entries)
    × ((j : ℕ) → j < l.i → HoldsAt (problem_of l.entries l.q) (filled l.words l.at l.k l.slots l.from) true j)
    × ((j : ℕ) → j < l.i → HoldsAt (problem_of l.entries l.q) (filled l.words l.at l.k l.slots l.from) false j)
