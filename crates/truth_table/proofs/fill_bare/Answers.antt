-- `fill_bare` meets its contract: where nothing is stated, no masks serve every entry.
use mathlib.Core.Path.{refl}
use Prim.Native.Nat.{zero-le}
use native.Mathlib.Nat.{le_refl}
use native.Mathlib.Omega.{arith}
use Rattle.truth_table.proofs.Served.{bare_served}
use Rattle.truth_table.proofs.fill_bare.Goals as goal

pub fill_words-requires : goal.fill_words-requires
fill_words-requires c = (
  c.requires.0,
  zero-le,
  le_refl _,
  record { some = omega arith; few = omega arith; four = λ n. absurd (n refl); narrow = omega arith; near = omega arith },
  λ i from to. bare_served c.args.table.now c.args.packed.now c.requires.0.structure c.requires.1 _ refl refl i,
)
