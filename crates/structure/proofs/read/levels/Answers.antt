use mathlib.Core.Path.{◌≡◌, refl}
use mathlib.Core.Logic.{⊎_elim}
use Prim.Native.Nat.{◌<◌}
use native.Mathlib.Nat.{eq-or-lt_of_le}
use native.Mathlib.Omega.{arith}
use lib.Bits.{or_lt, or_add_and, and_le_l, and_le_r}
use borrow.Author.Rules.{rules}
use Rattle.structure.specs.Record.{record_in}
use Rattle.structure.proofs.read.levels.Goals as goal

pub loop-i-preserved : goal.loop-i-preserved
loop-i-preserved c =
    let l = c.loop-i in
    let r = c.record_at-bits in (
      search rules,
      or_lt 2 l.bits r.result.copies l.invariant.1 r.ensures.4,
      λ j h.
          ⊎_elim
          (λ (e : j ≡ l.i).
          let same : r.result.copies ≡ (record_in c.args.bytes.now j).copies = rw (e, r.ensures.0) refl in
          omega (arith, same, or_add_and l.bits r.result.copies, and_le_l l.bits r.result.copies))
          (λ (b : j < l.i). omega (arith, l.invariant.2 j b, or_add_and l.bits r.result.copies, and_le_r l.bits r.result.copies))
          (eq-or-lt_of_le (omega arith)),
    )
