-- `fill_with` meets its contract: the masks serve every entry of the part once they are filled.
use native.Mathlib.Omega.{arith}
use Rattle.truth_table.proofs.Served.{served}
use Rattle.truth_table.proofs.Plan.fill_with.Goals as goal

pub fill_words-requires : goal.fill_words-requires
fill_words-requires c =
    let filled = c.fill_masks in
    let worlds = c.worlds.ensures in
    let ready = c.requires.0 in
    let leveled = ready.leveled in (
      ready.called,
      ready.laid.ordered,
      ready.laid.inside,
      record { some = leveled.some; few = leveled.few; four = leveled.four; narrow = worlds.2; near = omega arith },
      served c.args.self.table.now c.args.self.packed.now c.args.self.places.now c.args.self.rows.now c.args.self.part _ worlds.0 ready.laid leveled (rw filled.auto.masks c.requires.1) filled.ensures,
    )
