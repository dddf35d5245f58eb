-- `branch` meets its contract: the parts are wanted as the case says, and then the entry is split.
use Rattle.cases.proofs.Splitting.{first_asked, second_asked, first_branch, second_branch, second_alone}
use Rattle.cases.proofs.branch.branch.Goals as goal

pub want-requires : goal.want-requires
want-requires c = rw c.wide_at-e.ensures (first_asked c.requires.0 c.requires.1)

pub returns-then-case : goal.returns-then-case
returns-then-case c =
    rw c.if-case.true (first_branch c.requires.0 c.requires.1 (rw (c.serves-serving.ensures, c.wide_at-e.ensures) at c.in_ok-want.ensures) c.lighten.ensures)

pub want-requires-then-matches : goal.want-requires-then-matches
want-requires-then-matches c = rw c.wide_at-e.ensures (second_asked c.requires.0 c.requires.1 c.requires.0.settled)

pub returns-then-matches : goal.returns-then-matches
returns-then-matches c =
    rw c.if-case.false
    (second_alone c.requires.0 c.requires.1 (rw (c.serves-serving.ensures, c.wide_at-e.ensures) at c.in_ok-want-2.ensures) c.lighten-then-matches.ensures)

-- before the second part, the first one is wanted the other way
pub want-requires-2 : goal.want-requires-2
want-requires-2 c = rw c.wide_at-e.ensures (first_asked c.requires.0 c.requires.1)

pub want-requires-3 : goal.want-requires-3
want-requires-3 c = rw c.wide_at-e.ensures (second_asked c.requires.0 c.requires.1 c.in_ok-v.ensures.settled)

pub returns : goal.returns
returns c =
    let same = c.wide_at-e.ensures in
    let serving = c.serves-serving.ensures in
    rw c.if-case.false
    (second_branch c.requires.0 c.requires.1 (rw (serving, same) at c.in_ok-v.ensures) (rw (serving, same) at c.in_ok-want-3.ensures) c.lighten-2.ensures)
