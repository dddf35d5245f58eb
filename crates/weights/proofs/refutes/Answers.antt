-- `refutes` meets its contract: what it has checked is a refutation by the weights.
use native.Mathlib.Omega.{arith}
use Rattle.tableau.proofs.Weights.{no_extension}
use Rattle.weights.specs.Weighed.{weight_at}
use Rattle.weights.proofs.Ceil.{up_ceil}
use Rattle.weights.proofs.Refuting.{refuted_made}
use Rattle.weights.proofs.refutes.Goals as goal

pub returns-then-room-r : goal.returns-then-room-r
returns-then-room-r c so =
    let a = c.args in
    let less = rw (c.div_ceil.ensures, up_ceil c.left-lack.result a.r (omega arith), c.left-lack.ensures.0, c.left-room.ensures.0) at c.if-room-r.true in
    no_extension
    (refuted_made _ c.requires.0.few (weight_at a.words.now a.from) _ _ _ _ c.asked-needs.ensures c.asked-limits.ensures a.r (omega arith) (c.all_balanced.ensures so) less)
