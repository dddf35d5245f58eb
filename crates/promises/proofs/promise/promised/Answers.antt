use mathlib.Core.Path.{◌≡◌}
use mathlib.Core.Bool.{true}
use Rattle.sets.specs.Set.{member}
use Rattle.sets.proofs.Members.{count_removed}
use Rattle.promises.proofs.Promises.{promise_below, part_asked, partly_next, partly_clash}
use Rattle.promises.proofs.promise.promised.Goals as goal
use Rattle.promises.proofs.promise.promised.Goals.{In-Some}

-- the entry at hand is one of those left
top : (c : goal.In-Some) → member c.loop-i.rest c.in-Some.i ≡ true
top c = (c.in-Some.ensures).here

pub want_part-requires : goal.want_part-requires
want_part-requires c =
    let inv = c.loop-i.invariant in
    part_asked _ _ _ c.requires inv.settled c.in-Some.i (inv.within _ (top (goal.at.want_part-requires c).In-Some))

pub returns-in_err-v : goal.returns-in_err-v
returns-in_err-v c =
    rw c.from_residual.ensures
    (partly_clash _ _ _ c.requires c.loop-i.invariant c.in-Some.i (top (goal.at.returns-in_err-v c).In-Some) c.in_err-v.ensures)

pub loop-i-smaller : goal.loop-i-smaller
loop-i-smaller c =
    let i = c.in-Some.i in
    let here = top (goal.at.loop-i-smaller c).In-Some in
    rw c.without-rest.ensures
    (count_removed (member c.loop-i.rest) _ here (promise_below _ _ _ c.requires i (c.loop-i.invariant.within i here)))

pub loop-i-preserved : goal.loop-i-preserved
loop-i-preserved c =
    rw c.without-rest.ensures
    (partly_next _ _ _ c.requires c.loop-i.invariant c.in-Some.i (top (goal.at.loop-i-preserved c).In-Some) c.in_ok-v.ensures)
