use native.Mathlib.Nat.{le_refl, mul-le-mul}
use native.Mathlib.Omega.{arith}
use borrow.Author.Rules.{rules}
use Rattle.truth_table.proofs.places.place_part.Goals as goal

pub loop-i-preserved : goal.loop-i-preserved
loop-i-preserved c =
    let inv = c.loop-i.invariant in
    let placed = c.place_entry-used.ensures in (
      omega (arith, inv.0),
      search rules,
      omega (arith, placed.0, inv.2),
      omega (arith, mul-le-mul (le_refl c.args.levels) placed.1),
      λ e. absurd (omega (arith, e, inv.0)),
      placed.2 c.args.from inv.5,
    )
