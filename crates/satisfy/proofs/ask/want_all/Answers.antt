-- `want_all` meets its contract: the answers; what the loop keeps stands in Invariants.antt.
use mathlib.Core.Path.{◌≡◌}
use mathlib.Core.Bool.{true}
use Rattle.sets.specs.Set.{member}
use Rattle.sets.proofs.Members.{count_removed}
use Rattle.satisfy.proofs.Sets.{taking_none, taking_next, taking_clash, taking_asked}
use Rattle.satisfy.proofs.ask.want_all.Goals as goal
use Rattle.satisfy.proofs.ask.want_all.Goals.{In-Some}

pub loop-i-init : goal.loop-i-init
loop-i-init c = taking_none _ _ _ _ _ c.requires.settled

pub returns : goal.returns
returns c = rw c.in_default.ensures at c.loop-i.invariant

-- the entry at hand is one of those left
top : (c : goal.In-Some) → member c.loop-i.rest c.in-Some.i ≡ true
top c = (c.in-Some.ensures).here

pub want-requires : goal.want-requires
want-requires c = taking_asked _ _ _ _ _ c.requires c.loop-i.invariant c.in-Some.i (top (goal.at.want-requires c).In-Some)

pub returns-in_err-v : goal.returns-in_err-v
returns-in_err-v c = rw c.from_residual.ensures (taking_clash _ _ _ _ _ c.loop-i.invariant c.in-Some.i (top (goal.at.returns-in_err-v c).In-Some) c.in_err-v.ensures)

pub loop-i-smaller : goal.loop-i-smaller
loop-i-smaller c =
    let i = c.in-Some.i in
    let here = top (goal.at.loop-i-smaller c).In-Some in
    rw c.without-rest.ensures (count_removed (member c.loop-i.rest) _ here (c.requires.below i (c.loop-i.invariant.within i here)))

pub loop-i-preserved : goal.loop-i-preserved
loop-i-preserved c =
    rw c.without-rest.ensures
    (taking_next _ _ _ _ _ c.loop-i.invariant c.in-Some.i (top (goal.at.loop-i-preserved c).In-Some) c.in_ok-v.ensures)
