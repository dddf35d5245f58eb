-- `spans` meets its contract: what it has checked is a refutation at both ends, and so between them.
use Rattle.sets.specs.Set.{member, code}
use Rattle.tableau.proofs.Weights.{no_extension_with, refuted_between}
use Rattle.weights.specs.Weighed.{weight_at}
use Rattle.weights.proofs.Refuting.{refuted_with_made}
use Rattle.weights.proofs.range.spans.Goals as goal

pub returns : goal.returns
unfolding member
returns c so m from to e =
    let a = c.args in
    let serves = rw c.intersection.ensures at c.weigh-serves.ensures.0 in
    let costs = rw c.minus.ensures at c.weigh-costs.ensures.0 in
    let low = rw (c.left-lack.ensures.0, c.left-room.ensures.0, serves, costs) at (c.lacking.ensures c.if-not-lacking.false) in
    let high = rw (c.left-lack.ensures.0, c.left-room.ensures.0, serves, costs) at (c.lacking-else-not-lacking.ensures c.if-not-lacking-2.false) in
    let made = refuted_with_made _ c.requires.0.few (weight_at a.words.now a.from) _ _ _ _ c.asked-needs.ensures c.asked-limits.ensures (code a.b) in
    let balanced = c.all_balanced.ensures so in
    no_extension_with (refuted_between (made _ balanced low) (made _ balanced high) from to) e
