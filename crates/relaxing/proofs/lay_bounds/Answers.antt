use Rattle.std.proofs.Common.{arith}
use Rattle.relaxing.proofs.Below.{below_none, below_then, scratch_same}
use Rattle.relaxing.proofs.lay_bounds.Goals as goal

pub lay_entry-found-requires : goal.lay_entry-found-requires
lay_entry-found-requires c = (scratch_same c.loop-i.auto.words c.loop-i.invariant c.requires.0, omega arith)

pub loop-i-preserved : goal.loop-i-preserved
loop-i-preserved c = below_then c.loop-i.invariant c.lay_entry-found.ensures

pub loop-i-init : goal.loop-i-init
loop-i-init c = below_none
