-- `found` meets its contract: each step writes only words behind the list.
use Rattle.std.proofs.Common.{◌+◌, arith}
use Rattle.relaxing.specs.Relaxing.{SameBelow}
use Rattle.relaxing.proofs.Below.{below_then, below_put}
use Rattle.relaxing.proofs.found.Goals as goal

pub returns : goal.returns
returns c =
    let a = c.args in
    let copied : SameBelow (a.at + a.k) c.lay_bounds-bounds.new.words c.copy_within.new.self =
    record { word = λ i l. c.copy_within.ensures.by_index.1 i 0 (omega arith) } in
    below_then c.lay_bounds-bounds.ensures (below_then copied (below_put _ c.relax.new.s (omega arith)))
