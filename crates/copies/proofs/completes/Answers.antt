use native.Mathlib.Omega.{arith}
use borrow.Author.Count.{below_none, below_more}
use borrow.Author.Rules.{rules}
use Rattle.counting.specs.Question.{problem_of}
use Rattle.copies.proofs.Completing.{extension_filled}
use Rattle.copies.proofs.completes.Goals as goal

pub loop-i-preserved : goal.loop-i-preserved
loop-i-preserved c =
    let inv = c.loop-i.invariant in
    let met = c.holds_at.ensures (c.if-not-holds_at.false) in
    let kept = c.holds_at-else-not-holds_at.ensures (c.if-not-holds_at-2.false) in
    (search rules, below_more _ _ inv.1 met, below_more _ _ inv.2 kept)

pub returns : goal.returns
returns c so =
    let inv = c.loop-i.invariant in
    let a = c.args in
    extension_filled (problem_of a.entries.now a.q) a.words.now a.at a.slots a.from a.k
    (λ i l. inv.1 i (omega arith))
    (λ i l. inv.2 i (omega arith))

pub loop-i-init : goal.loop-i-init
loop-i-init c = (search rules, below_none _, below_none _)
