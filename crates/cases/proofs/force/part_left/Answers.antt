-- `part_left` meets its contract: of two parts, one is as it serves.
use mathlib.Core.Path.{refl}
use mathlib.Core.Logic.{inl, inr}
use Rattle.cases.proofs.Forcing.{part_asked, first_left, second_left}
use Rattle.cases.proofs.force.part_left.Goals as goal
use Rattle.cases.proofs.force.part_left.Goals.{Start}

pub told-requires : goal.told-requires
told-requires c =
    let start = (goal.at.told-requires c).Start in
    rw c.wide_at-e.ensures (start.requires.0.ready.formed, (part_asked start.requires.0 (inl refl)).inside, start.requires.1)

pub told-requires-in-None : goal.told-requires-in-None
told-requires-in-None c =
    let start = (goal.at.told-requires-in-None c).Start in
    rw c.wide_at-e.ensures (start.requires.0.ready.formed, (part_asked start.requires.0 (inr refl)).inside, start.requires.1)

pub returns-in-Some-true : goal.returns-in-Some-true
returns-in-Some-true c =
    let same = c.wide_at-e.ensures in
    rw same (inl refl, rw (c.in-Some-true.field-0-test, c.serves-serving.ensures, same) at c.in-Some-true.ensures)

pub returns-in-Some-false : goal.returns-in-Some-false
returns-in-Some-false c =
    let same = c.wide_at-e.ensures in
    rw same (inr refl, second_left c.requires.0 (rw (c.in-Some-false.field-0-test, c.serves-serving.ensures, same) at c.in-Some-false.ensures))

pub returns-in-Some-true-told : goal.returns-in-Some-true-told
returns-in-Some-true-told c =
    let same = c.wide_at-e.ensures in
    rw same (inr refl, rw (c.in-Some-true-told.field-0-test, c.serves-serving.ensures, same) at c.in-Some-true-told.ensures)

pub returns-in-Some-false-told : goal.returns-in-Some-false-told
returns-in-Some-false-told c =
    let same = c.wide_at-e.ensures in
    rw same (inl refl, first_left c.requires.0 (rw (c.in-Some-false-told.field-0-test, c.serves-serving.ensures, same) at c.in-Some-false-told.ensures))
