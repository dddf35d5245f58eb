-- `with_slot` meets its contract: a slot that says no tells of a question what it lacks of the wants of the slot.
use Rattle.std.proofs.Common.{ℕ, false, sym, ◌∙◌}
use Rattle.sets.specs.Set.{member}
use Rattle.table.specs.declared.entry.Entry.{Entry}
use Rattle.tableau.specs.Wants.{Sat}
use Rattle.memory.specs.Memory.{Memory}
use Rattle.memory.proofs.Slot.{slot_says}
use Rattle.memory.proofs.Easier.{lacks_true, lacks_false}
use Rattle.memory.proofs.learnt.with_slot.Goals as goal
use Rattle.memory.proofs.learnt.with_slot.Goals.{After-minus-more_no}

-- the question of the slot has no world
no_world : (c : goal.After-minus-more_no) (entry : ℕ → Entry) → Memory entry c.args.words.now c.args.from
    → Sat entry (member c.of_code.result) (member c.of_code-2.result) → ⊥
no_world c entry memory =
    slot_says memory c.args.slot c.requires.0 c.of_code.result c.of_code-2.result false
    (sym (c.of_code.ensures ∙ c.item_or-2.ensures)) (sym (c.of_code-2.ensures ∙ c.item_or-3.ensures)) (sym c.item_or.ensures ∙ c.if-item_or-ne2.false)

pub returns-then-is_empty : goal.returns-then-is_empty
returns-then-is_empty c entry memory so =
    let read = (goal.at.returns-then-is_empty c).After-minus-more_no in
    let args = read.args in
    c.with_missing.ensures.ruled entry (member args.yes) (member args.no) so
    (lacks_true (member args.yes) (member args.no) (member read.of_code.result) (member read.of_code-2.result)
    read.minus-more_yes.ensures (sym read.minus-more_no.ensures ∙ c.is_empty.ensures.0 c.if-is_empty.true) (no_world read entry memory))

pub returns-then-is_empty-2 : goal.returns-then-is_empty-2
returns-then-is_empty-2 c entry memory so =
    let read = (goal.at.returns-then-is_empty-2 c).After-minus-more_no in
    let args = read.args in
    c.with_missing-then-is_empty-2.ensures.ruled entry (member args.yes) (member args.no) so
    (lacks_false (member args.yes) (member args.no) (member read.of_code.result) (member read.of_code-2.result)
    read.minus-more_no.ensures (sym read.minus-more_yes.ensures ∙ c.is_empty-2.ensures.0 c.if-is_empty-2.true) (no_world read entry memory))
