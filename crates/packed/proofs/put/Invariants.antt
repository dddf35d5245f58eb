-- `put` meets its contract. The loop's invariant is that of a number written from its last byte on.
use Rattle.packed.proofs.Putting.{Putting}
use Rattle.packed.proofs.put.Given as goal

abbrev pub invariant-loop-k : goal.invariant-loop-k
invariant-loop-k l = Putting l.at l.width l.number l.initial.bytes l.k l.rest l.bytes
