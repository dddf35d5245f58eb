-- `take_close` meets its contract.
use mathlib.Core.Path.{refl}
use Rattle.typed.proofs.Taking.{close_took}
use Rattle.typed.proofs.pending.Writer.take_close.Goals as goal

pub returns : goal.returns
returns c = close_took _ _ _ _ _ _ _ c.settle.ensures refl c.settle-2.ensures
