-- `place_part` meets its contract. The invariant: the entries passed are laid out, and their rows fit. The first entry always fits.
use mathlib.Core.Path.{◌≡◌}
use Prim.Native.Nat.{◌*◌, ◌≤◌}
use Rattle.table.specs.Entry.{entry_in}
use Rattle.truth_table.specs.Masks.{Laid}
use Rattle.truth_table.proofs.places.place_part.Given as goal

abbrev pub invariant-loop-i : goal.invariant-loop-i
invariant-loop-i l =
    (l.from ≤ l.i) × (l.i ≤ l.n) × (l.worlds ≤ l.used) × (l.levels * l.used ≤ 4160) × (l.i ≡ l.from → l.used ≡ l.worlds)
    × Laid (entry_in l.table) l.from l.i l.worlds l.used l.places l.rows
