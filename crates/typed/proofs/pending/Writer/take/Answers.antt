-- `take` meets its contract: an arm for each sign.
use Rattle.typed.proofs.Taking.{prefix_took, open_took, operand_there, bracket_there}
use Rattle.typed.proofs.pending.Writer.take.Goals as goal

pub take_join-requires : goal.take_join-requires
take_join-requires c = (rw c.in-Between.is at c.requires.0, operand_there _ _ _ (rw c.in-Between.is at c.requires.1))

pub take_close-requires : goal.take_close-requires
take_close-requires c =
    let there = bracket_there _ _ (rw c.in-Close.is at c.requires.1) in
    (rw c.in-Close.is at c.requires.0, there.0, there.1)

pub returns-in-Before : goal.returns-in-Before
returns-in-Before c = rw c.in-Before.is (prefix_took _ _ _ _ (rw c.prefix_entry.ensures at c.push.ensures))

pub returns-in-Open : goal.returns-in-Open
returns-in-Open c = rw c.in-Open.is (open_took _ _)
