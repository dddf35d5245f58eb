-- `counted_at` meets its contract: a pair behind the `>` or `<`.
use Rattle.grammar.proofs.Text.{counted}
use Rattle.grammar.proofs.lexer.counted_at.Goals as goal

pub returns : goal.returns
returns c = counted _ _ c.in-Some.pair c.args.least c.in-Some.ensures c.requires.1 c.counting.ensures c.is_over.ensures
