-- `forget` meets its contract: what is filled is as much as the slots take, or all that there is.
use Rattle.std.proofs.Common.{rules}
use Rattle.memory.proofs.Moved.{forgotten}
use Rattle.memory.proofs.forget.Goals as goal

pub returns : goal.returns
returns c = forgotten c.args.words.now c.fill.new.self c.args.from c.min-begin.result c.min-end.result c.min-begin.ensures c.min-end.ensures (c.fill.ensures.after (search rules))
