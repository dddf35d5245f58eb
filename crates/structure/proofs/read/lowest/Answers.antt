-- `lowest` meets its contract: four times a place fits.
use Prim.Native.Nat.{◌+◌}
use native.Mathlib.Nat.{le_refl, mul-le-mul}
use native.Mathlib.Omega.{arith}
use Rattle.structure.proofs.read.lowest.Goals as goal
use Rattle.structure.proofs.read.lowest.Goals.{Start}

pub overflow_mul-result : goal.overflow_mul-result
overflow_mul-result c =
    let s = (goal.at.overflow_mul-result c).Start in
    record { fits = omega (arith, mul-le-mul s.requires.2 (le_refl (c.item_or.result + s.args.from))) }
