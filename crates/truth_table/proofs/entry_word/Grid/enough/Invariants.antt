-- `enough` meets its contract. The invariant: the bits of the worlds passed are right, whatever test the part's word is of. Behind the
-- row no world leads anywhere, which is too few.
use mathlib.Core.Path.{◌≡◌}
use mathlib.Core.Bool.{Bool}
use Prim.Native.Nat.{ℕ, ◌≤◌}
use lib.Dec.{leb}
use Rattle.semantics.specs.Structure.{Structure, successors}
use Rattle.sets.specs.Word.{word}
use Rattle.truth_table.specs.Masks.{LinkRow}
use Rattle.truth_table.proofs.entry_word.Grid.enough.Given as goal

abbrev pub invariant-loop-w : goal.invariant-loop-w
invariant-loop-w l =
    (l.w ≤ l.self.width) × ((s : Structure) (relation : ℕ) (p : ℕ → Bool) → LinkRow s relation l.at l.self → l.part ≡ word p s.worlds
    → l.holds ≡ word (λ v. leb l.grade (successors s relation v p)) l.w)
