-- `fill_part` meets its contract: an accepted table has 64 entries at most, and the places are zeros at first.
use Rattle.packed.proofs.Zeros.{zeros_at}
use Rattle.table.proofs.Accepted.{accepted_small}
use Rattle.truth_table.proofs.fill_part.Goals as goal

pub place_part-part-requires : goal.place_part-part-requires
place_part-part-requires c =
    let worlds = c.worlds.ensures in
    (c.requires.2, accepted_small c.args.table.now c.requires.0.table, worlds.1, worlds.2, c.requires.1.some, c.requires.1.few, zeros_at 512)
