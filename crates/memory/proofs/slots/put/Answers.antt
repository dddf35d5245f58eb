-- `put` meets its contract: three stores, one after the other.
use Rattle.memory.proofs.Slot.{slot_written}
use Rattle.memory.proofs.slots.put.Goals as goal

pub returns : goal.returns
returns c = slot_written c.args.words.now c.args.from c.args.slot c.args.yes c.args.no c.args.last c.requires.1
