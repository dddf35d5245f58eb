-- `fill_laid` meets its contract. The invariant: the words of the parts passed are right, and those behind are as before.
use Prim.Native.Nat.{◌-◌, ◌≤◌}
use Rattle.structure.specs.Read.{structure_of}
use Rattle.table.specs.Entry.{entry_in}
use Rattle.truth_table.specs.Board.{Filled}
use Rattle.truth_table.proofs.fill_laid.Given as goal

abbrev pub invariant-loop-i : goal.invariant-loop-i
invariant-loop-i l = (l.i ≤ l.n) × Filled (structure_of l.packed) (entry_in l.table) l.i l.initial.words l.words

abbrev pub decreases-loop-i : goal.decreases-loop-i
decreases-loop-i l = l.n - l.i
