-- `advance` meets its contract: it stops where all needs are met, or where no slot is left to give up a copy.
use mathlib.Core.Path.{◌≡◌}
use Prim.Native.Nat.{suc}
use native.Mathlib.Omega.{arith}
use Rattle.counting.proofs.Standing.{standing_few, at_found, at_failed, at_newest, nearer_idle, newest_space, newest_within}
use Rattle.counting.proofs.advance.Goals as goal

pub met-requires : goal.met-requires
met-requires c = (standing_few c.args.entries.now c.args.q c.requires.standing, c.requires.standing.all_asking)

pub returns-then-met : goal.returns-then-met
returns-then-met c = at_found c.requires (rw c.if-met.true at c.met.ensures)

pub returns-in_default-checked_sub : goal.returns-in_default-checked_sub
returns-in_default-checked_sub c = at_failed c.requires c.in_default.is (rw c.if-met.false at c.met.ensures) (omega arith)

pub give_up-requires : goal.give_up-requires
give_up-requires c =
    let left : c.args.at.slots ≡ suc c.in-Some-checked_sub.newest = omega arith in
    let s = at_newest c.requires c.in_default.is left in
    (newest_space s, newest_within s)

pub returns : goal.returns
returns c =
    let left : c.args.at.slots ≡ suc c.in-Some-checked_sub.newest = omega arith in
    nearer_idle c.requires c.in_default.is (rw c.if-met.false at c.met.ensures) left (c.give_up.ensures _)
