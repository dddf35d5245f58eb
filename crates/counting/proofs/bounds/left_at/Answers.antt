-- `left_at` meets its contract: what is left of an entry counts where it asks and the set counts for it.
use mathlib.Core.Path.{sym, ◌∙◌}
use native.Mathlib.Omega.{arith}
use Rattle.sets.specs.Set.{member}
use Rattle.counting.proofs.Measures.{asks_yes, counts_same, counts_other, left_not, left_here}
use Rattle.counting.proofs.bounds.left_at.Goals as goal

pub returns-then-not-counts : goal.returns-then-not-counts
unfolding member
returns-then-not-counts c =
    let a = c.args in
    let test = rw c.contains.ensures at c.counts.ensures in
    rw c.unasked.ensures (left_not _ _ _ _ a.i (λ at. counts_other a.need _ (sym test ∙ c.if-not-counts.true)))

pub returns : goal.returns
unfolding member
returns c =
    let read = c.wide_at-e.ensures in
    let a = c.args in
    let in-set = rw c.contains.ensures at c.counts.ensures in
    let test = rw read at c.asks.ensures in
    let asks = asks_yes a.entries.now a.q a.i a.need c.requires.0 (sym test ∙ c.if-not-asks.false) in
    rw (c.left.ensures, read)
    (left_here _ _ _ _ a.i asks (counts_same a.need _ (sym in-set ∙ c.if-not-counts.false)) (omega arith) c.requires.2)
