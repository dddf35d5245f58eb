use native.Mathlib.Numerals.{add-one}
use borrow.Author.Rules.{rules}
use Rattle.counting.proofs.Measures.{left_next}
use Rattle.counting.proofs.bounds.tightest.Goals as goal

pub loop-i-preserved : goal.loop-i-preserved
loop-i-preserved c = (search rules, rw (add-one, c.tighter-found.ensures) (left_next _ _ _ _ c.loop-i.invariant.1 c.left_at.ensures))
