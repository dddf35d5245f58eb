-- `balanced` meets its contract: the two sums are those of the needs in the set and of the limits outside it.
use Prim.Native.Nat.{◌/◌}
use borrow.Author.Tests.{leb-true}
use Rattle.sets.specs.Set.{member}
use Rattle.weights.proofs.Ceil.{up_ceil}
use Rattle.weights.proofs.balanced.Goals as goal

pub returns : goal.returns
unfolding member
returns c so =
    let serves = rw c.intersection.ensures at c.weigh-serves.ensures.0 in
    let costs = rw c.minus.ensures at c.weigh-costs.ensures.0 in
    rw (c.div_ceil.ensures, up_ceil c.weigh-serves.result c.args.r c.requires.1, serves, costs) at (leb-true c.div_ceil.result (c.weigh-costs.result / c.args.r) so)
