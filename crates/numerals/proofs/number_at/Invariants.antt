-- `number_at` meets its contract: the loop reads digits as far as there are any.
use Prim.Native.Nat.{◌-◌}
use lib.ListN.{length}
use Rattle.numerals.proofs.Digits.{Reading}
use Rattle.numerals.proofs.number_at.Given as goal

abbrev pub invariant-loop-digit : goal.invariant-loop-digit
invariant-loop-digit l = Reading l.text l.at l.limit l.value l.end

abbrev pub decreases-loop-digit : goal.decreases-loop-digit
decreases-loop-digit l = length l.text - l.end
