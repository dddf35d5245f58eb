-- `sets::Set::common` meets its contract: the ones of both words together are the members of both sets.
use borrow.Author.Rules.{rules}
use Rattle.sets.specs.Set.{member}
use Rattle.sets.proofs.Words.{ones_and}
use Rattle.sets.proofs.Set.common.Goals as goal

pub returns : goal.returns
unfolding member
returns c = ones_and 64 (search rules) (search rules)
