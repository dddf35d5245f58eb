-- `take` meets its contract: the slot is written, and the search goes on below its set.
use native.Mathlib.Numerals.{add-one}
use Rattle.counting.proofs.Standing.{nearer_taken}
use Rattle.counting.proofs.take.Goals as goal

pub returns : goal.returns
returns c P asked fit = nearer_taken asked fit c.put_slot.ensures (rw add-one at c.behind.ensures)
