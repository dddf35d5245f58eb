-- `look` meets its contract. The invariant: what is wanted says the same as at first. Each turn sees an entry that was not seen.
use mathlib.Core.Bool.{not}
use lib.ListN.{length}
use Rattle.semantics.specs.Count.{count}
use Rattle.sets.specs.Set.{member}
use Rattle.wide.specs.Wide.{wide_in}
use Rattle.cases.specs.Force.{Forced}
use Rattle.cases.proofs.force.look.Given as goal

abbrev pub invariant-loop-d : goal.invariant-loop-d
invariant-loop-d l = Forced (wide_in l.entries) (length l.entries) l.initial.v l.bound l.depth l.v

abbrev pub decreases-loop-d : goal.decreases-loop-d
decreases-loop-d l = count (λ i. not (member l.seen i)) (length l.entries)
