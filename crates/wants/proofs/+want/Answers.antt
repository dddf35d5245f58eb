-- `want` meets its contract. A part has a smaller number than its entry. Each way out is a law of Steps.
use Rattle.wants.proofs.Steps.{part_asked, turned_part, first_part, second_part, turned_taken, turned_clash, both_taken, first_clash, second_clash}
use Rattle.wants.proofs.+want.Goals as goal

-- each part may be wanted: that of a not, and both of an and or an or
pub want-requires : goal.want-requires
want-requires t c = part_asked c.requires c.decreases (turned_part c.requires c.args.truth _ c.in-Turned.ensures) c.requires.settled

pub want-requires-in-Both : goal.want-requires-in-Both
want-requires-in-Both t c = part_asked c.requires c.decreases (first_part c.requires c.args.truth _ _ c.in-Both.ensures) c.requires.settled

pub want-requires-in-Both-2 : goal.want-requires-in-Both-2
want-requires-in-Both-2 t c = part_asked c.requires c.decreases (second_part c.requires c.args.truth _ _ c.in-Both.ensures) c.in_ok-one-in-Both.ensures.settled

-- a not
pub returns-in_err-parts-in-Turned : goal.returns-in_err-parts-in-Turned
returns-in_err-parts-in-Turned t c =
    rw c.from_residual.ensures (turned_clash c.requires c.args.truth _ c.in-Turned.ensures c.in_err-parts-in-Turned.ensures)

pub returns-in_ok-parts-in-Turned : goal.returns-in_ok-parts-in-Turned
returns-in_ok-parts-in-Turned t c =
    turned_taken c.requires c.args.truth _ c.in-Turned.ensures c.in_ok-parts-in-Turned.ensures c.put.ensures

-- both parts, of which either may clash
pub returns-in_err-one-in-Both : goal.returns-in_err-one-in-Both
returns-in_err-one-in-Both t c =
    rw c.from_residual-in_err-one-in-Both.ensures (first_clash c.requires c.args.truth _ _ c.in-Both.ensures c.in_err-one-in-Both.ensures)

pub returns-in_err-both-in-Both : goal.returns-in_err-both-in-Both
returns-in_err-both-in-Both t c =
    rw c.from_residual-in_err-both-in-Both.ensures
    (second_clash c.requires c.args.truth _ _ c.in-Both.ensures c.in_ok-one-in-Both.ensures c.in_err-both-in-Both.ensures)

pub returns-in_ok-both-in-Both : goal.returns-in_ok-both-in-Both
returns-in_ok-both-in-Both t c =
    both_taken c.requires c.args.truth _ _ c.in-Both.ensures c.in_ok-one-in-Both.ensures c.in_ok-both-in-Both.ensures c.put-in-Both.ensures
