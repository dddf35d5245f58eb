use mathlib.Core.Path.{◌≡◌}
use Prim.Native.Nat.{◌%◌, ◌≤◌}
use native.Mathlib.Numerals.{add-one}
use native.Mathlib.Omega.{arith}
use borrow.Author.Rules.{rules}
use Rattle.sets.specs.Word.{bit_at}
use Rattle.tableau.specs.Counting.{total}
use Rattle.counting.specs.Stack.{counts}
use Rattle.counting.proofs.Slots.{gain_le}
use Rattle.copies.specs.Filled.{filled}
use Rattle.copies.proofs.Completing.{tally_few}
use Rattle.copies.proofs.amount.Goals as goal
use Rattle.copies.proofs.amount.Goals.{Start}

pub loop-j-init : goal.loop-j-init
unfolding filled
loop-j-init c =
    let start = (goal.at.loop-j-init c).Start in
    let a = start.args in
    let few = tally_few a.words.now a.promised a.i a.slots start.requires.stack in
    (search rules, omega (arith, c.tally-sum.ensures, few), c.tally-sum.ensures)

shared_le : (c : goal.After-share-sum) → c.share-sum.result ≤ 65536
shared_le c =
    let a = c.args in
    let code = c.item_or-code.result in
    let copies = c.item_or-copies.result % 65536 in
    omega (arith, c.share-sum.ensures, gain_le (counts a.promised (bit_at code a.i)) copies)

pub loop-j-preserved : goal.loop-j-preserved
unfolding filled total
loop-j-preserved c =
    let shared = rw (c.item_or-code.ensures, c.item_or-copies.ensures) at c.share-sum.ensures in
    (search rules, omega (arith, shared_le c), rw add-one (omega (arith, shared)))

pub returns : goal.returns
returns c =
    let e : c.loop-j.j ≡ c.args.k = omega arith in
    rw e at c.loop-j.invariant.2

pub overflow_add-sum : goal.overflow_add-sum
overflow_add-sum c = omega (arith, shared_le c)
