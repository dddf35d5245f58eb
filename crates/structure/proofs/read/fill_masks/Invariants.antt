-- `fill_masks` meets its contract. The invariant: each word of a row is that of what the records passed state.
use mathlib.Core.Path.{◌≡◌}
use mathlib.Core.Bool.{Bool}
use Prim.Native.Nat.{ℕ, ◌≤◌}
use lib.ListN.{length, get_or}
use Rattle.structure.specs.Record.{record_in, worlds_of}
use Rattle.structure.specs.Masks.{stated_by, Placed, word_of}
use Rattle.structure.proofs.Stated.{some_word}
use Rattle.structure.proofs.read.fill_masks.Given as goal

abbrev pub invariant-loop-i : goal.invariant-loop-i
invariant-loop-i l =
    let row = record_in l.bytes in
    (l.i ≤ l.n) × (length l.masks ≡ length l.initial.masks) × ((k : Bool) (name v t : ℕ) → Placed (worlds_of row) l.levels l.places k name v t
    → get_or l.masks (word_of l.levels l.places k name v t) 0 ≡ some_word (λ j. stated_by (row j) k name v t) l.i (worlds_of row))
