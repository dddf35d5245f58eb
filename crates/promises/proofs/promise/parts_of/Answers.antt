use mathlib.Core.Path.{◌≡◌, refl}
use mathlib.Core.Bool.{true}
use Rattle.sets.specs.Set.{member}
use Rattle.sets.proofs.Members.{count_removed}
use Rattle.promises.proofs.Promises.{promise_below}
use Rattle.promises.proofs.Parts.{collected_next, part_small}
use Rattle.promises.proofs.promise.parts_of.Goals as goal
use Rattle.promises.proofs.promise.parts_of.Goals.{After-wide_at-e, In-Some}

-- the entry at hand is one of those left
top : (c : goal.In-Some) → member c.loop-i.rest c.in-Some.i ≡ true
top c = (c.in-Some.ensures).here

pub with_part-yes-requires : goal.with_part-yes-requires
with_part-yes-requires c =
    rw c.wide_at-e.ensures (part_small c.loop-i.invariant.0 c.requires _ (top (goal.at.with_part-yes-requires c).In-Some))

pub with_part-no-requires : goal.with_part-no-requires
with_part-no-requires c =
    rw c.wide_at-e.ensures (part_small c.loop-i.invariant.0 c.requires _ (top (goal.at.with_part-no-requires c).In-Some))

pub loop-i-smaller : goal.loop-i-smaller
loop-i-smaller c =
    let at = (goal.at.loop-i-smaller c).In-Some in
    let loop = c.loop-i in
    rw c.without-rest.ensures
    (count_removed (member loop.rest) _ (top at) (promise_below _ _ _ c.requires _ (loop.invariant.0.within _ (top at))))

pub loop-i-preserved : goal.loop-i-preserved
loop-i-preserved c =
    let at = (goal.at.loop-i-preserved c).In-Some in
    let inv = c.loop-i.invariant in
    let all = c.requires in
    rw (c.without-rest.ensures, c.with_part-yes.ensures, c.with_part-no.ensures, c.wide_at-e.ensures)
    (collected_next inv.0 all _ (top at) _ refl, collected_next inv.1 all _ (top at) _ refl)
