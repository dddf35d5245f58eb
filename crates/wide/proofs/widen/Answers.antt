use mathlib.Core.Path.{◌≡◌, refl, sym}
use native.Mathlib.Numerals.{add-one}
use native.Mathlib.Omega.{arith}
use lib.ListN.{length-set}
use borrow.Author.Rules.{rules}
use Rattle.table.specs.Entry.{size}
use Rattle.wide.proofs.Widening.{packed_fits, widened_none, widened_next}
use Rattle.wide.proofs.widen.Goals as goal

pub folded-requires : goal.folded-requires
folded-requires c = (rw c.entry_at-e.ensures (packed_fits _ _), c.loop-i.invariant.2.formed)

pub loop-i-preserved : goal.loop-i-preserved
loop-i-preserved c =
    let l = c.loop-i in
    let e = rw c.entry_at-e.ensures at c.folded.ensures.0 in
    (search rules, simp length-set l.invariant.1, rw add-one (widened_next (λ i h. c.requires.1 i (omega arith)) l.invariant.2 _ (omega arith) (rw c.pack.ensures e)))

pub returns : goal.returns
returns c =
    let e : c.loop-i.i ≡ size c.args.table.now = omega arith in
    rw e at c.loop-i.invariant.2

pub loop-i-init : goal.loop-i-init
loop-i-init c = (search rules, refl, widened_none _ 64)

pub slice_bounds-folded-end : goal.slice_bounds-folded-end
slice_bounds-folded-end c = sym c.loop-i.invariant.1

pub pack-requires : goal.pack-requires
pack-requires c = c.folded.ensures.1
