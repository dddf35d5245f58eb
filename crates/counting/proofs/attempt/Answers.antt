-- `attempt` meets its contract: a set of which copies are of use is asked for, another is passed over.
use mathlib.Core.Path.{◌≡◌}
use native.Mathlib.Nat.{le_refl}
use native.Mathlib.Omega.{arith}
use Rattle.counting.proofs.Standing.{standing_few, standing_space, nearer_useless}
use Rattle.counting.proofs.attempt.Goals as goal
use Rattle.counting.proofs.attempt.Goals.{Start}

pub useful-copies-requires : goal.useful-copies-requires
useful-copies-requires c =
    let start = (goal.at.useful-copies-requires c).Start in
    let s = start.requires.standing in
    (standing_few start.args.entries.now start.args.q s, s.searching.kept)

pub returns-then-copies-gt0 : goal.returns-then-copies-gt0
returns-then-copies-gt0 c =
    let at = c.requires in
    let useful = c.useful-copies.ensures in (
      record { at = at; useful = useful; positive = c.if-copies-gt0.true; space = standing_space at.standing c.if-copies-gt0.true useful },
      le_refl _,
    )

pub returns-else-copies-gt0 : goal.returns-else-copies-gt0
returns-else-copies-gt0 c =
    let none : c.useful-copies.result ≡ 0 = omega arith in
    nearer_useless c.requires (rw none at c.useful-copies.ensures) c.behind.ensures
