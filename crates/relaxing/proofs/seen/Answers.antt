-- `seen` meets its contract: what is checked is what stood below the list's end at first.
use native.Mathlib.Omega.{arith}
use Rattle.relaxing.proofs.Below.{relaxing_same, slots_below, codes_below_kept}
use Rattle.relaxing.proofs.seen.Goals as goal
use Rattle.relaxing.proofs.seen.Goals.{Start}

pub checked-requires : goal.checked-requires
checked-requires c = (relaxing_same c.found-verdict.auto.words c.found-verdict.ensures c.requires, omega arith)

pub returns : goal.returns
returns c =
    let start = (goal.at.returns c).Start in
    let a = start.args in
    let same = c.found-verdict.ensures in
    record {
      answers = rw (slots_below same a.slots (omega (arith, start.requires.below)), codes_below_kept same a.at a.k (omega arith)) at c.checked.ensures;
      same = same;
    }
