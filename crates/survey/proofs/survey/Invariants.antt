-- `survey` meets its contract: the loop reads sign after sign, as the reader does.
use Prim.Native.Nat.{◌-◌}
use lib.ListN.{length}
use Rattle.survey.proofs.Seen.{Seen}
use Rattle.survey.proofs.survey.Given as goal

abbrev pub invariant-loop-sign : goal.invariant-loop-sign
invariant-loop-sign l = Seen l.text l.at l.mode l.counted

abbrev pub decreases-loop-sign : goal.decreases-loop-sign
decreases-loop-sign l = length l.text - l.at
