-- The greater depth of two entries of an accepted table, and of one entry for both.
use mathlib.Core.Path.{◌≡◌}
use mathlib.Core.List.{List}
use Prim.Native.Nat.{ℕ, ◌<◌, ◌≤◌, max}
use native.Mathlib.Nat.{le_refl, max-le, max-eq_left}
use Rattle.faults.specs.Verdict.{accepted}
use Rattle.table.specs.Entry.{entry_in, size}
use Rattle.table.specs.Formulas.{depth_at}
use Rattle.table.specs.Check.{table_verdict}
use Rattle.table.proofs.Shallow.{accepted_shallow}

pub pair_shallow : (bytes : List ℕ) (a b : ℕ) → table_verdict bytes ≡ accepted → a < size bytes → b < size bytes → max (depth_at (entry_in bytes) a) (depth_at (entry_in bytes) b) ≤ 63
pair_shallow bytes a b ok one other = max-le (accepted_shallow bytes ok a one) (accepted_shallow bytes ok b other)

-- one entry for both
pub one_depth : (bytes : List ℕ) (e : ℕ) → max (depth_at (entry_in bytes) e) (depth_at (entry_in bytes) e) ≡ depth_at (entry_in bytes) e
one_depth bytes e = max-eq_left (le_refl (depth_at (entry_in bytes) e))
