-- `behind` meets its contract: the set that comes next below, or none.
use Rattle.counting.proofs.Standing.{behind_below}
use Rattle.counting.proofs.behind.Goals as goal

pub returns : goal.returns
returns c = behind_below _ _ c.below.ensures
