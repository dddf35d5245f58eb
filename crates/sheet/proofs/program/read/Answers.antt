-- What is read stands behind what was read before.
use Rattle.std.proofs.Common.{rules}
use Rattle.sheet.proofs.Reading.{in_order_more}
use Rattle.sheet.proofs.program.read.Goals as goal

pub loop-n-preserved : goal.loop-n-preserved
loop-n-preserved g c = record {
  filled = search rules;
  same_length = search rules;
  in_order =
      in_order_more _ _ _ c.loop-n.room c.read.new.buf _ c.loop-n.n c.in_ok-more.more c.loop-n.invariant.filled c.in_ok-more.ensures.bound.0
      c.loop-n.invariant.in_order c.in_ok-more.ensures.bytes.0;
}
