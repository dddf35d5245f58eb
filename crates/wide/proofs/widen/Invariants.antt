-- `widen` meets its contract. The invariant: the words hold the entries passed, and 0 behind them.
use mathlib.Core.Path.{◌≡◌}
use Prim.Native.Nat.{◌≤◌}
use lib.ListN.{length}
use Rattle.wide.specs.Wide.{Widened}
use Rattle.wide.proofs.widen.Given as goal

abbrev pub invariant-loop-i : goal.invariant-loop-i
invariant-loop-i l = (l.i ≤ l.n) × (length l.words ≡ 64) × Widened l.table l.i l.words
