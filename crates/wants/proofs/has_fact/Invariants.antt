-- `has_fact` meets its contract. The invariant: what is left of the set has all its entries that are the fact.
-- Each turn takes one member out.
use lib.ListN.{length}
use Rattle.semantics.specs.Count.{count}
use Rattle.sets.specs.Set.{member}
use Rattle.wide.specs.Wide.{wide_in}
use Rattle.wants.specs.Step.{names_fact}
use Rattle.sets.proofs.Members.{Left}
use Rattle.wants.proofs.has_fact.Given as goal

abbrev pub invariant-loop-i : goal.invariant-loop-i
invariant-loop-i l = Left (member l.initial.rest) (λ i. names_fact (wide_in l.entries i) l.name) (member l.rest)

abbrev pub decreases-loop-i : goal.decreases-loop-i
decreases-loop-i l = count (member l.rest) (length l.entries)
