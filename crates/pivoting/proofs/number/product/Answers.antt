-- `product` is safe: both factors are below 2^31.
use Rattle.std.proofs.Common.{arith}
use Rattle.std.proofs.lemmas.Nat.{mul-lt}
use Rattle.pivoting.proofs.number.product.Goals as goal

pub overflow_mul-result : goal.overflow_mul-result
overflow_mul-result c = record { fits = omega (arith, mul-lt c.factor.result c.factor-2.result 2147483648 2147483648 (omega arith) (omega arith)) }
