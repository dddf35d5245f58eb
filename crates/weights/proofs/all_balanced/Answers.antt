use mathlib.Core.Path.{◌≡◌, ◌∙◌}
use native.Mathlib.Omega.{arith}
use borrow.Author.Count.{below_none, below_more}
use borrow.Author.Rules.{rules}
use Rattle.listed.proofs.Codes.{listed_place}
use Rattle.weights.proofs.all_balanced.Goals as goal

pub loop-j-preserved : goal.loop-j-preserved
loop-j-preserved c =
    let read : _ ≡ _ = c.of_code-set.ensures ∙ c.item_or.ensures in
    let here = rw read at (c.balanced.ensures (c.if-not-balanced.false)) in
    (search rules, below_more _ _ c.loop-j.invariant.1 here)

pub returns : goal.returns
returns c so d listed =
    let a = c.args in
    let (j, less, e) = listed_place a.words.now a.at a.k listed in
    rw e (c.loop-j.invariant.1 j (omega arith))

pub loop-j-init : goal.loop-j-init
loop-j-init c = (search rules, below_none _)
