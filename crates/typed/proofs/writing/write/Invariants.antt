-- `write` meets its contract: the loop takes sign after sign.
use Prim.Native.Nat.{◌-◌}
use lib.ListN.{length}
use Rattle.typed.specs.Writing.{Writable}
use Rattle.typed.proofs.Progress.{Writing}
use Rattle.typed.proofs.writing.write.Given as goal

abbrev pub invariant-loop-sign : goal.invariant-loop-sign
invariant-loop-sign l = (w : Writable l.text l.initial.table) → Writing l.text l.initial.table w.tree l.table l.writer l.at

abbrev pub decreases-loop-sign : goal.decreases-loop-sign
decreases-loop-sign l = length l.text - l.at
