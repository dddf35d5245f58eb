-- `fill_words` meets its contract. The invariant: the words of the entries passed are right where those before the part were, and those behind are as before.
use mathlib.Core.Path.{◌≡◌}
use Prim.Native.Nat.{◌≤◌}
use lib.ListN.{length}
use Rattle.truth_table.specs.Masks.{GoesOn}
use Rattle.truth_table.proofs.Plan.fill_words.Given as goal

abbrev pub invariant-loop-i : goal.invariant-loop-i
invariant-loop-i l =
    (l.initial.i ≤ l.i) × (l.i ≤ l.self.part.to) × (length l.words ≡ length l.initial.words) × GoesOn l.self.table.now l.self.packed.now l.initial.i l.i l.initial.words l.words
