use native.Mathlib.Omega.{arith}
use Rattle.std.specs.Prelude.{Some, None}
use Rattle.cases.proofs.Forcing.{forced_none, forced_next}
use Rattle.cases.proofs.Recalling.{room_reckoned}
use Rattle.cases.proofs.force.force.Goals as goal
use Rattle.cases.proofs.force.force.Goals.{Start}

pub memory-from-requires : goal.memory-from-requires
memory-from-requires c = room_reckoned c.requires.room (omega arith)

pub informed-requires : goal.informed-requires
informed-requires c =
    let start = (goal.at.informed-requires c).Start in
    (c.loop.invariant.ready, rw c.memory-from.ensures start.requires.memory)

pub returns-in_err-u : goal.returns-in_err-u
returns-in_err-u c = rw c.from_residual.ensures (forced_next c.loop.invariant None c.in_err-u.ensures)

pub returns-then-code : goal.returns-then-code
returns-then-code c = forced_next c.loop.invariant (Some c.in_ok-u.u) c.in_ok-u.ensures

pub loop-preserved : goal.loop-preserved
loop-preserved c = forced_next c.loop.invariant (Some c.in_ok-u.u) c.in_ok-u.ensures

pub loop-init : goal.loop-init
loop-init c = forced_none c.requires.ready
