-- `serves` meets its contract: the world of a slot that says yes is as fewer entries want.
use Rattle.std.proofs.Common.{true, sym, ◌∙◌}
use borrow.Author.Tests.{eqb-true}
use Rattle.sets.specs.Set.{member}
use Rattle.memory.proofs.Slot.{slot_says}
use Rattle.memory.proofs.Easier.{fewer_wants, nothing_lacking}
use Rattle.memory.proofs.learnt.serves.Goals as goal
use Rattle.memory.proofs.learnt.serves.Goals.{then-item_or-eq1, else-item_or-eq1}

pub returns-then-is_empty : goal.returns-then-is_empty
returns-then-is_empty c entry memory e = elim c.if-item_or-eq1.branch [
  | then-item_or-eq1 w ↦
      let its-yes = w.of_code.result in
      let its-no = c.of_code-then-is_empty.result in
      fewer_wants
      (nothing_lacking (member c.args.yes) (member its-yes) (sym w.minus.ensures ∙ w.is_empty.ensures.0 (sym w.value-is ∙ c.if-is_empty.true)))
      (nothing_lacking (member c.args.no) (member its-no) (sym c.minus-then-is_empty.ensures ∙ c.is_empty-then-is_empty.ensures.0 e))
      (slot_says memory c.args.slot c.requires.0 its-yes its-no true (sym (w.of_code.ensures ∙ w.item_or-then-item_or-eq1.ensures))
      (sym (c.of_code-then-is_empty.ensures ∙ c.item_or-then-is_empty.ensures)) (sym c.item_or.ensures ∙ w.if-item_or-eq1.true))
  | else-item_or-eq1 w ↦ absurd (w.if-item_or-eq1.false (eqb-true _ _ (sym w.value-is ∙ c.if-is_empty.true)))
]
