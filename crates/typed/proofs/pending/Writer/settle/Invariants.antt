-- `settle` meets its contract.
use Rattle.typed.proofs.Settling.{Settling}
use Rattle.typed.proofs.pending.Writer.settle.Given as goal

abbrev pub invariant-loop-self : goal.invariant-loop-self
invariant-loop-self l = Settling l.rank l.initial.table l.table l.initial.self l.self

abbrev pub decreases-loop-self : goal.decreases-loop-self
decreases-loop-self l = l.self.pending
