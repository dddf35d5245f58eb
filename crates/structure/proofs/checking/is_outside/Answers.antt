-- `is_outside` meets its contract: a link names two worlds.
use borrow.Author.Tests.{le-leb, lt-leb}
use Rattle.structure.proofs.checking.is_outside.Goals as goal

pub returns-then-worlds-world : goal.returns-then-worlds-world
returns-then-worlds-world c = rw (rw c.in-Some-Link.field-0-is at c.in-Some-Link.ensures.known, le-leb _ _ c.if-worlds-world.true)

pub returns-else-worlds-world : goal.returns-else-worlds-world
returns-else-worlds-world c = rw (rw c.in-Some-Link.field-0-is at c.in-Some-Link.ensures.known, lt-leb _ _ c.if-worlds-world.false)
