-- `lay_bounds` meets its contract. The invariant: only words behind the place have been written.
use Rattle.relaxing.specs.Relaxing.{SameBelow}
use Rattle.relaxing.proofs.lay_bounds.Given as goal

abbrev pub invariant-loop-i : goal.invariant-loop-i
invariant-loop-i l = SameBelow l.end l.initial.words l.words
