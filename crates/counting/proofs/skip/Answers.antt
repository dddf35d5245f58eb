-- `skip` meets its contract: no solution has a set that is not fit.
use Rattle.counting.proofs.Standing.{nearer_unfit}
use Rattle.counting.proofs.skip.Goals as goal

pub returns : goal.returns
returns c P words asked un = nearer_unfit asked.at un c.behind.ensures
