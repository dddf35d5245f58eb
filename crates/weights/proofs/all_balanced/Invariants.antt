-- `all_balanced` meets its contract. The invariant: the sets passed are balanced.
use Prim.Native.Nat.{ℕ, ◌+◌, ◌<◌, ◌≤◌}
use lib.ListN.{get_or}
use Rattle.sets.specs.Set.{member}
use Rattle.weights.specs.Weighed.{Balanced}
use Rattle.weights.proofs.all_balanced.Given as goal

abbrev pub invariant-loop-j : goal.invariant-loop-j
invariant-loop-j l =
    (l.j ≤ l.k) × ((i : ℕ) → i < l.j → Balanced l.words l.from (member l.needs) (member l.limits) l.r (get_or l.words (l.at + i) 0))
