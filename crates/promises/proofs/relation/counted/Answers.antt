use native.Mathlib.Numerals.{add-one}
use borrow.Author.Rules.{rules}
use Rattle.counting.proofs.Asking.{upto_next}
use Rattle.promises.proofs.relation.counted.Goals as goal
use Rattle.promises.proofs.relation.counted.Goals.{Start}

pub loop-i-preserved : goal.loop-i-preserved
loop-i-preserved c = (search rules, rw (add-one, c.with_counting-found.ensures, c.wide_at.ensures) (upto_next _ c.loop-i.invariant.1))
