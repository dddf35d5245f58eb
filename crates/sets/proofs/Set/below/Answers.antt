-- `sets::Set::below` meets its contract: the word less one, cut to the bits of the other, comes next.
use native.Mathlib.Omega.{arith}
use borrow.Author.Rules.{rules}
use Rattle.sets.specs.Set.{member}
use Rattle.sets.proofs.Submasks.{next_below}
use Rattle.sets.proofs.Set.below.Goals as goal

pub returns-else-self-eq0 : goal.returns-else-self-eq0
unfolding member
returns-else-self-eq0 c = next_below 64 c.args.within.bits (omega arith) (search rules) c.requires
