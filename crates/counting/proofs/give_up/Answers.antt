-- `give_up` meets its contract: the set tried is that of the newest slot.
use mathlib.Core.Path.{◌≡◌, ◌∙◌}
use native.Mathlib.Numerals.{add-one}
use Rattle.sets.specs.Set.{member, code}
use Rattle.counting.specs.Stack.{slot_at}
use Rattle.counting.proofs.Standing.{nearer_popped, nearer_lowered}
use Rattle.counting.proofs.give_up.Goals as goal
use Rattle.counting.proofs.give_up.Goals.{After-of_code-tried}

tried : (c : After-of_code-tried)
    → code c.of_code-tried.result ≡ (slot_at c.args.words.now c.args.newest).code
tried c = c.of_code-tried.ensures ∙ c.item_or.ensures

pub behind-requires : goal.behind-requires
unfolding member
behind-requires c = rw (tried (goal.at.behind-requires c).After-of_code-tried) c.requires.1

pub returns-then-copies-le1 : goal.returns-then-copies-le1
returns-then-copies-le1 c P s un =
    nearer_popped s un (tried (goal.at.returns-then-copies-le1 c).After-of_code-tried) (rw c.item_or-copies.ensures at c.if-copies-le1.true) c.behind.ensures

pub behind-requires-2 : goal.behind-requires-2
unfolding member
behind-requires-2 c =
    rw (tried (goal.at.behind-requires-2 c).After-of_code-tried)
    c.requires.1

pub returns : goal.returns
returns c P s un =
    let copies = c.item_or-copies.ensures in
    nearer_lowered s un (tried (goal.at.returns c).After-of_code-tried)
    (rw copies at c.if-copies-le1.false) (rw copies at c.put_slot.ensures)
    (rw add-one at c.behind-2.ensures)
