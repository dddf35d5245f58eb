-- `store` meets its contract: what is written is the answer to the question.
use Rattle.memory.proofs.Slot.{stored}
use Rattle.memory.proofs.slots.store.Goals as goal
use Rattle.memory.proofs.slots.store.Goals.{After-put}

pub returns : goal.returns
returns c =
    let wrote = (goal.at.returns c).After-put in
    let args = c.args in
    stored wrote.put.ensures args.yes args.no args.answer c.code.ensures c.code-2.ensures c.code_of.ensures
