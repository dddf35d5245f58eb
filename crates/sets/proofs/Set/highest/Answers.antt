-- `sets::Set::highest` meets its contract: 0 has no bit set, and the zeros above the highest bit of any other word tell its place.
use mathlib.Core.Path.{◌∙◌, ap, fun_ext}
use native.Mathlib.Omega.{arith}
use lib.Count.{leading_top}
use borrow.Author.Rules.{rules}
use Rattle.sets.specs.Word.{bit_at}
use Rattle.sets.specs.Set.{member}
use Rattle.sets.proofs.Words.{bit_zero, highest_bit}
use Rattle.sets.proofs.Set.highest.Goals as goal

pub overflow_sub-result : goal.overflow_sub-result
overflow_sub-result c = omega (arith, (leading_top 64 c.args.self.bits (omega arith) (search rules)).1)

pub returns-then-self-eq0 : goal.returns-then-self-eq0
unfolding member
returns-then-self-eq0 c = ap bit_at c.if-self-eq0.true ∙ fun_ext bit_zero

pub returns-else-self-eq0 : goal.returns-else-self-eq0
unfolding member
returns-else-self-eq0 c = highest_bit 64 (omega arith) (search rules)
