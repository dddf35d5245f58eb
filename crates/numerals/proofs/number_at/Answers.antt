-- `number_at` meets its contract: the loop reads digits as far as there are any. What is returned the search finds, by the lemmas of
-- Digits.antt.
use Rattle.numerals.proofs.Digits.{start, more}
use Rattle.numerals.proofs.number_at.Goals as goal

pub loop-digit-init : goal.loop-digit-init
loop-digit-init c = start _ _ _

pub loop-digit-preserved : goal.loop-digit-preserved
loop-digit-preserved c = more _ _ _ c.loop-digit.invariant c.in-Some.ensures _ c.grown-value.ensures
