-- `levels` meets its contract. The invariant: no field of a record passed exceeds the bits of all.
use Prim.Native.Nat.{ℕ, ◌≤◌, ◌<◌}
use Rattle.structure.specs.Record.{record_in}
use Rattle.structure.proofs.read.levels.Given as goal

abbrev pub invariant-loop-i : goal.invariant-loop-i
invariant-loop-i l = (l.i ≤ l.n) × (l.bits < 4) × ((j : ℕ) → j < l.i → (record_in l.bytes j).copies ≤ l.bits)
