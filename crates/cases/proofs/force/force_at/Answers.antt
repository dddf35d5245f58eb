-- `force_at` meets its contract: a part that must be as it serves is wanted so.
use Rattle.cases.proofs.Forcing.{part_asked, forced_part}
use Rattle.cases.proofs.force.force_at.Goals as goal

pub want-requires : goal.want-requires
want-requires c = part_asked c.requires.0 c.in-Some.ensures.0

pub returns : goal.returns
returns c =
    let left = c.in-Some.ensures in
    forced_part c.requires.0 left.0 left.1 (rw (c.serves-serving.ensures, c.wide_at.ensures) at c.in_ok-want.ensures) c.lighten.ensures
