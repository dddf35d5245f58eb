-- `prepare` meets its contract: nothing is remembered, so nothing wrong.
use native.Mathlib.Omega.{arith}
use lib.ListN.{length, take}
use Rattle.table.specs.Entry.{size}
use Rattle.table.proofs.Accepted.{accepted_formed, accepted_small}
use Rattle.wide.specs.Wide.{wide_in}
use Rattle.wide.proofs.Widening.{wide_formed}
use Rattle.cases.specs.Levels.{Roomy}
use Rattle.cases.proofs.Recalling.{room_reckoned}
use Rattle.satisfy.proofs.Calls.{room_kept}
use Rattle.decision.proofs.Question.{table_room}
use Rattle.decision.proofs.ask.prepare.Goals as goal
use Rattle.decision.proofs.ask.prepare.Goals.{After-widen-entries}

pub widen-entries-requires : goal.widen-entries-requires
widen-entries-requires c = let (ok, level, enough) = c.requires in (accepted_small _ ok, accepted_formed _ ok)

-- the words have room for the levels
room : (c : goal.After-widen-entries)
    → Roomy (wide_in (take (size c.args.table.now) c.widen-entries.result)) (size c.args.table.now) c.args.level.depth c.args.level.size (length c.args.words.now)
room c = let (ok, level, enough) = c.requires in rw level (table_room _ _ enough c.widen-entries.ensures)

pub memory-requires : goal.memory-requires
memory-requires c = room_reckoned (room (goal.at.memory-requires c).After-widen-entries) (omega arith)

pub returns : goal.returns
returns c =
    let (ok, level, enough) = c.requires in
    let forgotten = c.forget in (
      c.widen-entries.ensures,
      record {
        formed = wide_formed c.widen-entries.ensures;
        few = accepted_small _ ok;
        room = room_kept forgotten.auto.words (room (goal.at.returns c).After-widen-entries);
        memory = rw c.memory.ensures at (forgotten.ensures.memory (wide_in (take (size c.args.table.now) c.widen-entries.result)));
      },
    )
