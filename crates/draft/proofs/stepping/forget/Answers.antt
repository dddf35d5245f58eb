use native.Mathlib.Omega.{arith}
use Rattle.history.proofs.Lists.{is_listed}
use Rattle.draft.proofs.stepping.forget.Goals as goal

pub returns : goal.returns
returns c = let at = c.loop-length.invariant in is_listed _ _ 16 at.long (λ n h. at.below n (omega arith))
