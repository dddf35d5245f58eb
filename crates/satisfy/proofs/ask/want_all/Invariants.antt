-- `want_all` meets its contract. The invariant: the entries passed are wanted, and nothing that does not follow from the whole set.
use lib.ListN.{length}
use Rattle.semantics.specs.Count.{count}
use Rattle.sets.specs.Set.{member}
use Rattle.wide.specs.Wide.{wide_in}
use Rattle.satisfy.specs.Sets.{Taking}
use Rattle.satisfy.proofs.ask.want_all.Given as goal

abbrev pub invariant-loop-i : goal.invariant-loop-i
invariant-loop-i l = Taking (wide_in l.entries) (length l.entries) l.truth (member l.initial.rest) (member l.rest) l.initial.v l.v

abbrev pub decreases-loop-i : goal.decreases-loop-i
decreases-loop-i l = count (member l.rest) (length l.entries)
