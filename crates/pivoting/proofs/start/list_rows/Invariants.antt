-- `list_rows` is safe: there are no more rows than entries.
use Rattle.std.proofs.Common.{◌≤◌}
use Rattle.pivoting.proofs.start.list_rows.Given as goal

abbrev pub invariant-loop-e : goal.invariant-loop-e
invariant-loop-e l = l.rows ≤ l.e
