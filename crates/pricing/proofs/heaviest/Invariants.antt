-- `heaviest` meets its contract: what is left is within the set.
use Rattle.sets.specs.Set.{member, Within}
use Rattle.pricing.proofs.heaviest.Given as goal

abbrev pub invariant-loop-plane : goal.invariant-loop-plane
invariant-loop-plane l = Within (member l.found) (member l.initial.found)
