use mathlib.Core.Path.{refl}
use Prim.Native.Nat.{◌≤◌}
use native.Mathlib.Numerals.{add-one}
use native.Mathlib.Omega.{arith}
use borrow.Author.Rules.{rules}
use Rattle.sets.specs.Word.{bit_at}
use Rattle.tableau.specs.Counting.{total}
use Rattle.counting.specs.Stack.{slots_of, slot_at, counts}
use Rattle.counting.proofs.Slots.{gain_le}
use Rattle.counting.proofs.stack.tally.Goals as goal

pub loop-j-init : goal.loop-j-init
unfolding slots_of total
loop-j-init c = (search rules, search rules, refl)

share_le : (c : goal.After-share-sum) → c.share-sum.result ≤ 4096
share_le c =
    let start = c.before.before.before.before.before.before in
    let a = start.args in
    let j = c.loop-j.j in
    let slot = slot_at a.words.now j in
    let shared = rw (c.item_or-code.ensures, c.item_or-copies.ensures) at c.share-sum.ensures in
    omega (
      arith,
      shared,
      gain_le (counts a.promised (bit_at slot.code a.i)) slot.copies,
      start.requires.copies j c.loop-j-test.true,
    )

pub loop-j-preserved : goal.loop-j-preserved
unfolding slots_of total
loop-j-preserved c =
    let shared = rw (c.item_or-code.ensures, c.item_or-copies.ensures) at c.share-sum.ensures in
    (search rules, omega (arith, share_le c), rw add-one (omega (arith, shared)))

pub overflow_add-sum : goal.overflow_add-sum
overflow_add-sum c = omega (arith, share_le c)
