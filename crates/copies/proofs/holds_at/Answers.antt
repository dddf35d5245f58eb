-- `holds_at` meets its contract: an entry that does not ask, a need with no less than it asks for, or a limit with no more than it allows.
use mathlib.Core.Path.{sym, ◌∙◌}
use borrow.Author.Tests.{leb-true}
use Rattle.counting.proofs.Measures.{asks_no}
use Rattle.copies.proofs.holds_at.Goals as goal

pub returns-then-not-asks : goal.returns-then-not-asks
returns-then-not-asks c so asks =
    let a = c.args in
    let test = rw c.wide_at-e.ensures at c.asks.ensures in
    absurd (asks_no a.entries.now a.q a.i a.need (sym test ∙ c.if-not-asks.true) asks)

pub returns-then-need : goal.returns-then-need
returns-then-need c so asks =
    let bound = c.bound-bound in
    let count = c.amount-count in
    let read = c.wide_at-e.ensures in
    rw c.if-need.true (rw (bound.ensures, read, count.ensures, c.if-need.true) at (leb-true bound.result count.result so))

pub returns-else-need : goal.returns-else-need
returns-else-need c so asks =
    let bound = c.bound-bound in
    let count = c.amount-count in
    let read = c.wide_at-e.ensures in
    rw c.if-need.false (rw (bound.ensures, read, count.ensures, c.if-need.false) at (leb-true count.result bound.result so))
