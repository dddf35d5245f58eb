-- `lacking` meets its contract: no product is great.
use Prim.Native.Nat.{◌*◌, ◌≤◌}
use native.Mathlib.Nat.{mul-le-mul}
use native.Mathlib.Omega.{arith}
use Rattle.weights.proofs.range.lacking.Goals as goal
use Rattle.weights.proofs.range.lacking.Goals.{Start}

module _ (c : goal.Start) where
  few_served : c.args.m * c.args.serves ≤ 281474976710656
  few_served = mul-le-mul {n₂ = 4096} {m₂ = 68719476736} c.requires.4 c.requires.2

  few_spent : c.args.m * c.args.costs ≤ 281474976710656
  few_spent = mul-le-mul {n₂ = 4096} {m₂ = 68719476736} c.requires.4 c.requires.3

pub overflow_mul-result : goal.overflow_mul-result
overflow_mul-result c = record { fits = omega (arith, few_served (goal.at.overflow_mul-result c).Start) }

pub overflow_add-result : goal.overflow_add-result
overflow_add-result c = record { fits = omega (arith, few_served (goal.at.overflow_add-result c).Start, c.requires.1) }

pub overflow_mul-result-2 : goal.overflow_mul-result-2
overflow_mul-result-2 c = record { fits = omega (arith, few_spent (goal.at.overflow_mul-result-2 c).Start) }

pub overflow_add-result-2 : goal.overflow_add-result-2
overflow_add-result-2 c = record { fits = omega (arith, few_spent (goal.at.overflow_add-result-2 c).Start, c.requires.0) }
