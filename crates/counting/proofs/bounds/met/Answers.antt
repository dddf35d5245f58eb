-- `met` meets its contract: where no need lacks anything, all are met.
use Rattle.counting.proofs.Measures.{met_answer}
use Rattle.counting.proofs.bounds.met.Goals as goal

pub returns : goal.returns
returns c = met_answer _ _ _ _ c.requires.1 c.tightest.ensures
