-- `solved` meets its contract: the search starts with nothing on the stack.
use Rattle.selection.proofs.Selecting.{asked_selecting, asked_answer}
use Rattle.selection.proofs.solved.Goals as goal

pub returns : goal.returns
returns c = asked_answer c.requires c.select.result c.select.ensures

pub select-requires : goal.select-requires
select-requires c = asked_selecting c.requires
