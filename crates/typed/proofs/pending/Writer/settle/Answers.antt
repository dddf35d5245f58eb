use mathlib.Core.Path.{sym, ◌∙◌}
use Rattle.typed.proofs.Settling.{one_more, all_settled}
use Rattle.typed.proofs.pending.Writer.settle.Goals as goal

pub loop-self-preserved : goal.loop-self-preserved
loop-self-preserved c = one_more _ _ _ c.loop-self.invariant _ _ (sym c.takes.ensures ∙ c.loop-self-test.true) c.close.ensures

pub returns : goal.returns
returns c = all_settled _ _ _ c.loop-self.invariant c.requires.2 (sym c.takes.ensures ∙ c.loop-self-test.false)
