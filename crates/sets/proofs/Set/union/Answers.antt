-- `sets::Set::union` meets its contract, bit by bit.
use mathlib.Core.Path.{fun_ext}
use Rattle.sets.specs.Set.{member}
use Rattle.sets.proofs.Words.{bit_of_or}
use Rattle.sets.proofs.Set.union.Goals as goal

pub returns : goal.returns
unfolding member
returns c = fun_ext (bit_of_or c.args.self.bits c.args.other.bits)
