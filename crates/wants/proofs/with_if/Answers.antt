-- `with_if` meets its contract: the test says which case of the definition it is.
use Rattle.wants.proofs.with_if.Goals as goal

pub returns-then-more : goal.returns-then-more
returns-then-more c = rw c.if-more.true c.with.ensures

pub returns-else-more : goal.returns-else-more
returns-else-more c = rw c.if-more.false
