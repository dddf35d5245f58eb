-- `want_if` meets its contract: it wants the entry, or nothing.
use Rattle.promises.proofs.Promises.{held_one}
use Rattle.promises.proofs.promise.want_if.Goals as goal

pub returns-then-so : goal.returns-then-so
returns-then-so c = rw c.if-so.true (held_one _ _ _ _ c.args.truth c.want.result c.want.ensures)
