use mathlib.Core.Path.{◌≡◌, refl}
use native.Mathlib.Numerals.{add-one}
use native.Mathlib.Omega.{arith}
use lib.ListN.{length-set}
use borrow.Author.Rules.{rules}
use Rattle.table.specs.Entry.{entry_in}
use Rattle.table.specs.Formulas.{depth_at}
use Rattle.table.proofs.Depths.{depth_at_rule, depths_none, depths_earlier, depths_le, depths_next}
use Rattle.table.proofs.depth.depths.Goals as goal

pub loop-i-init : goal.loop-i-init
loop-i-init c = (search rules, refl, depths_none _ 64)

pub depth_of-requires : goal.depth_of-requires
depth_of-requires c =
    let pre = c.requires in
    let inv = c.loop-i.invariant in
    omega (arith, depths_le pre.1 inv.2 inv.0 c.entry_at-e.result.first)

-- what the call says of entry i
here : (c : goal.After-depth_of)
    → c.depth_of.result ≡ depth_at (entry_in c.args.table.now) c.loop-i.i
here c =
    let entry = entry_in c.args.table.now in
    let l = c.loop-i in
    cc (depth_at_rule entry l.i, depths_earlier entry l.invariant.2 (entry l.i).first, depths_earlier entry l.invariant.2 (entry l.i).second)

pub loop-i-preserved : goal.loop-i-preserved
loop-i-preserved c =
    let l = c.loop-i in
    (search rules, simp length-set l.invariant.1, rw (add-one, here c) (depths_next _ l.invariant.2 (omega arith)))
