use native.Mathlib.Omega.{arith}
use Rattle.grammar.proofs.Unique.{one_tree_fits}
use Rattle.typed.proofs.Progress.{none_taken, ready, goes, one_more, ended, all_written, some_entry}
use Rattle.typed.proofs.writing.write.Goals as goal

pub loop-sign-init : goal.loop-sign-init
loop-sign-init c = λ w. none_taken _ _ w c.new-writer.ensures

pub sign_at-requires : goal.sign_at-requires
sign_at-requires c = (c.loop-sign.invariant c.requires).inside

pub take-requires : goal.take-requires
take-requires c =
    let so = c.loop-sign.invariant c.requires in
    (ready _ _ c.requires so _ c.in-Found.ensures, goes _ _ c.requires so _ c.in-Found.ensures)

pub loop-sign-preserved : goal.loop-sign-preserved
loop-sign-preserved c = λ w. one_more _ _ w (c.loop-sign.invariant w) _ c.in-Found.ensures _ _ c.take.ensures

pub settle-requires : goal.settle-requires
settle-requires c =
    let w = ended _ _ c.requires (c.loop-sign.invariant c.requires) _ c.sign_at.ensures c.in_default.not-Found in (
      record { few = omega (arith, w.total, w.few); lent = omega (arith, w.total, w.lent) },
      some_entry _ _ _ _ w,
      omega arith,
    )

pub returns : goal.returns
returns c = λ t fits.
    let w = ended _ _ c.requires (c.loop-sign.invariant c.requires) _ c.sign_at.ensures c.in_default.not-Found in
    all_written _ _ _ _ _ _ w c.settle.ensures t (one_tree_fits _ _ _ fits w.fits)
