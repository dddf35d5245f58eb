-- `depths` meets its contract. The invariant: the list holds the depths of the entries passed, and 0 behind them.
use mathlib.Core.Path.{◌≡◌}
use Prim.Native.Nat.{◌≤◌}
use lib.ListN.{length}
use Rattle.table.specs.Entry.{entry_in}
use Rattle.table.specs.Formulas.{Depths}
use Rattle.table.proofs.depth.depths.Given as goal

abbrev pub invariant-loop-i : goal.invariant-loop-i
invariant-loop-i l = (l.i ≤ l.n) × (length l.depth ≡ 64) × Depths (entry_in l.table) l.i l.depth
