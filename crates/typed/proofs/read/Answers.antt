-- `read` meets its contract.
use mathlib.Core.Path.{refl}
use native.Mathlib.Omega.{arith}
use borrow.Author.Rules.{rules}
use lib.ListN.{length}
use Rattle.typed.proofs.Verdicts.{over_refused, space_refused, writable, answered}
use Rattle.typed.proofs.read.Goals as goal

pub returns-then-is_over : goal.returns-then-is_over
returns-then-is_over c = (search (rules, over_refused _ _ c.in-Some.ensures (length c.args.table.now) c.is_over.ensures c.if-is_over.true), refl)

pub returns-then-table-counted : goal.returns-then-table-counted
returns-then-table-counted c =
    (space_refused _ _ c.in-Some.ensures _ c.is_over.ensures c.if-is_over.false (omega arith), refl)

pub write-requires : goal.write-requires
write-requires c = writable _ _ c.in-Some.ensures _ c.is_over.ensures c.if-is_over.false _ refl (omega arith)

pub returns : goal.returns
returns c =
    answered _ _ c.in-Some.ensures _ c.is_over.ensures c.if-is_over.false _ _ refl (omega arith) c.write.ensures
