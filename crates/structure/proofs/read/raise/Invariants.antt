-- `raise` meets its contract. The invariant: the bit has come to the words passed, and to no other, if it came so to the first.
use mathlib.Core.Path.{◌≡◌}
use mathlib.Core.List.{List}
use Prim.Native.Nat.{ℕ, ◌^◌, ◌≤◌}
use lib.ListN.{length}
use Rattle.structure.specs.Masks.{Raised}
use Rattle.structure.proofs.read.raise.Given as goal

abbrev pub invariant-loop-t : goal.invariant-loop-t
invariant-loop-t l =
    (1 ≤ l.t) × (l.t ≤ l.n) × (length l.masks ≡ length l.initial.masks) × ((before : List ℕ) → Raised (2 ^ l.to) l.at 1 before l.initial.masks → Raised (2 ^ l.to) l.at l.t before l.masks)
