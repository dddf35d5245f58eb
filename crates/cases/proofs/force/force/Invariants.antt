-- `force` meets its contract. The invariant: what is wanted says the same as at first.
use lib.ListN.{length}
use Rattle.wide.specs.Wide.{wide_in}
use Rattle.cases.specs.Force.{Forced}
use Rattle.cases.proofs.force.force.Given as goal

abbrev pub invariant-loop : goal.invariant-loop
invariant-loop l = Forced (wide_in l.entries) (length l.entries) l.initial.v l.bound l.level.depth l.v
