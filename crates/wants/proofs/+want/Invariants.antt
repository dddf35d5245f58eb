-- `want` meets its contract. The measure is the entry's number: a part has a smaller one.
use Rattle.wants.proofs.+want.Given as goal

abbrev pub decreases-want : goal.decreases-want
decreases-want l = l.e
