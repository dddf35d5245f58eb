-- `rulings` meets its contract. The invariant: what is known is so.
use Rattle.std.proofs.Common.{ℕ}
use Rattle.sets.specs.Set.{member}
use Rattle.table.specs.declared.entry.Entry.{Entry}
use Rattle.memory.specs.Memory.{Memory}
use Rattle.memory.specs.Learnt.{Never}
use Rattle.memory.proofs.learnt.rulings.Given as goal

abbrev pub invariant-loop-slot : goal.invariant-loop-slot
invariant-loop-slot l = (entry : ℕ → Entry) → Memory entry l.words l.from → Never entry (member l.yes) (member l.no) l.known
