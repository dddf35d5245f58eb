-- `sets::Set::minus` meets its contract, bit by bit.
use mathlib.Core.Path.{fun_ext}
use borrow.Author.Rules.{rules}
use Rattle.sets.specs.Set.{member}
use Rattle.sets.proofs.Words.{bit_minus}
use Rattle.sets.proofs.Set.minus.Goals as goal

pub returns : goal.returns
unfolding member
returns c = fun_ext (bit_minus 64 (search rules) (search rules))
