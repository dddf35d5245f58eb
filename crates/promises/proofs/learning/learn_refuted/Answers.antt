-- `learn_refuted` meets its contract: a world that is as the needs and limits alone want would have a solution of them.
use mathlib.Core.Path.{refl}
use Rattle.wide.specs.Wide.{wide_in}
use Rattle.cases.proofs.Recalling.{next_same}
use Rattle.promises.proofs.Unsolved.{refuted_told}
use Rattle.promises.proofs.learning.learn_refuted.Goals as goal
use Rattle.promises.proofs.learning.learn_refuted.Goals.{After-slice_known-1, Start}

pub returns : goal.returns
returns c =
    let start = (goal.at.returns c).After-slice_known-1 in
    let a = start.args in
    let entry = wide_in a.entries.now in
    let stored = c.learn.ensures in
    record {
      same = next_same a.level.depth a.level.size _ a.work.now a.work.now (rw c.memory-from.ensures at stored.same) refl;
      memory = rw c.memory-from.ensures at
          (stored.memory entry (rw c.memory-from.ensures start.requires.memory)
          (refuted_told a.entries.now start.requires.formed start.requires.small c.asking.ensures c.narrowed-alone.ensures start.requires.none));
    }
