-- `useful` meets its contract: what is lacking, cut to the room.
use Rattle.counting.proofs.Measures.{useful_made}
use Rattle.counting.proofs.bounds.useful.Goals as goal

pub returns : goal.returns
returns c = rw c.min.ensures (useful_made _ _ _ c.tightest-lack.ensures c.tightest.ensures)
