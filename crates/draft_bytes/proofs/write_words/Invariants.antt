-- `write_words` meets its contract. The invariant: the words passed are written.
use Rattle.draft_bytes.specs.Table.{Words}
use Rattle.draft_bytes.proofs.write_words.Given as goal

abbrev pub invariant-loop-i : goal.invariant-loop-i
invariant-loop-i l = Words l.words l.i l.initial.bytes l.bytes
