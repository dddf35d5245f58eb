-- `spanned` meets its contract: a number of copies in the range is one that the weights refute.
use Rattle.std.proofs.Common.{arith}
use Rattle.selection.proofs.spanned.Goals as goal

pub returns-then-words-at-ge64 : goal.returns-then-words-at-ge64
returns-then-words-at-ge64 c so (m, more, less, e) = c.spans.ensures so m more (omega arith) e
