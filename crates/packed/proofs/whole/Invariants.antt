-- `whole` meets its contract. The invariant: the number is what the bytes passed spell, and fits as many bytes.
use mathlib.Core.Path.{◌≡◌}
use Prim.Native.Nat.{◌^◌, ◌≤◌, ◌<◌}
use Rattle.packed.specs.Bytes.{big_endian_of}
use Rattle.packed.proofs.whole.Given as goal

abbrev pub invariant-loop-k : goal.invariant-loop-k
invariant-loop-k l = (l.k ≤ l.width) × (l.number ≡ big_endian_of l.bytes l.at l.k) × (l.number < 256 ^ l.k)
