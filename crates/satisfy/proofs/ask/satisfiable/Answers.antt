-- `satisfiable` meets its contract: the settled sets are asked of a world.
use lib.ListN.{length}
use native.Mathlib.Omega.{arith}
use Rattle.sets.specs.Set.{member}
use Rattle.wide.specs.Wide.{wide_in}
use Rattle.satisfy.specs.Sets.{Settling}
use Rattle.satisfy.proofs.Sets.{settling_answer}
use Rattle.satisfy.proofs.ask.satisfiable.Goals as goal
use Rattle.satisfy.proofs.ask.satisfiable.Goals.{In-Some}

pub settle-requires : goal.settle-requires
settle-requires c = c.requires.sets

-- what the sets have come to
settled : (c : goal.In-Some)
    → Settling (wide_in c.args.entries.now) (length c.args.entries.now) (member c.args.yes) (member c.args.no) c.args.level.depth c.in-Some.v
settled c = c.in-Some.ensures

pub world-requires : goal.world-requires
world-requires c = record { ready = (settled (goal.at.world-requires c).In-Some).ready; small = omega arith; room = c.requires.room; memory = c.requires.memory }

pub returns : goal.returns
returns c =
    let (answer, memory) = c.world.ensures in
    (settling_answer (settled (goal.at.returns c).In-Some) c.world.result answer, memory)

pub returns-in_default : goal.returns-in_default
returns-in_default c = (c.in_default.ensures, c.requires.memory)
