-- `sets::Set::empty` meets its contract: no bit of 0 is set.
use mathlib.Core.Path.{fun_ext}
use Rattle.sets.specs.Set.{member}
use Rattle.sets.proofs.Words.{bit_zero}
use Rattle.sets.proofs.Set.empty.Goals as goal

pub returns : goal.returns
unfolding member
returns c = fun_ext bit_zero
