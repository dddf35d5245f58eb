-- `settle` meets its contract: the two sets, one after the other.
use Rattle.satisfy.proofs.Sets.{first_asked, second_asked, first_clash, both_settled}
use Rattle.satisfy.proofs.ask.settle.Goals as goal

pub want_all-requires : goal.want_all-requires
want_all-requires c = first_asked _ _ _ _ _ c.requires c.nothing.ensures

pub want_all-requires-2 : goal.want_all-requires-2
want_all-requires-2 c = second_asked _ _ _ _ _ c.requires c.in_ok-v.ensures.settled

pub returns : goal.returns
returns c = both_settled _ _ _ _ _ c.requires c.nothing.ensures c.in_ok-v.ensures c.want_all-2.result c.want_all-2.ensures

pub returns-in_err-v : goal.returns-in_err-v
returns-in_err-v c = rw c.from_residual.ensures (first_clash _ _ _ _ _ c.requires c.nothing.ensures c.in_err-v.ensures)
