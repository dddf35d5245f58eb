-- `left_at` meets its contract: without a weight there is nothing to count, and no product is great.
use mathlib.Core.Path.{sym}
use native.Mathlib.Nat.{zero-mul}
use native.Mathlib.Omega.{arith}
use Rattle.weights.proofs.Sums.{left_le}
use Rattle.weights.proofs.left_at.Goals as goal

pub returns-then-w-eq0 : goal.returns-then-w-eq0
returns-then-w-eq0 c = rw (← c.weight-w.ensures, c.if-w-eq0.true) (sym (zero-mul _))

pub returns : goal.returns
returns c = rw (c.left.ensures, c.wide_at.ensures, c.weight-w.ensures)

pub overflow_mul-result : goal.overflow_mul-result
overflow_mul-result c =
    let a = c.args in
    record { fits = omega (arith, returns c, left_le a.words.now a.from a.entries.now a.slots a.need a.i) }
