-- `recall_at` meets its contract: a slot that holds both sets answers for them.
use Rattle.std.proofs.Common.{sym, ◌∙◌}
use Rattle.memory.proofs.Slot.{recalled}
use Rattle.memory.proofs.recall_at.Goals as goal

pub returns : goal.returns
returns c entry memory =
    recalled memory c.args.slot c.requires.0 c.args.yes c.args.no c.item_or-2.result c.answer_of.result
    (sym c.item_or.ensures ∙ c.if-item_or-code.false ∙ c.code.ensures)
    (sym c.item_or-else-item_or-code.ensures ∙ c.if-item_or-code-2.false ∙ c.code-else-item_or-code.ensures)
    (sym c.item_or-2.ensures) c.answer_of.ensures
