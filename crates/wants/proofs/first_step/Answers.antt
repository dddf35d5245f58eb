-- `first_step` meets its contract: where no part comes first, the kind is none of those that have one.
use mathlib.Core.Path.{sym, ◌∙◌}
use borrow.Author.Tests.{eqb-false}
use Rattle.wants.proofs.Reading.{kind_not_read}
use Rattle.wants.proofs.Told.{kind_told}
use Rattle.wants.proofs.Steps.{rest_taken}
use Rattle.table.specs.declared.kind.Kind.{Kind}
use Rattle.wants.proofs.first_step.Goals as goal

pub returns : goal.returns
returns c =
    let read = c.wide_at-at.ensures in
    let known = c.of-kind.ensures in
    let no-not = c.if-eq.ensures ∙ kind_told _ _ Kind.Not known.known known.unknown in
    let no-both = rw c.both_kind.ensures at (c.if-eq-2.ensures ∙ kind_told _ _ c.both_kind.result known.known known.unknown) in
    let either = rw c.both_kind-2.ensures at (c.eq-pending.ensures ∙ kind_told _ _ c.both_kind-2.result known.known known.unknown) in
    rest_taken c.requires c.args.truth (rw c.if-clashes.false at c.clashes.ensures)
    (kind_not_read read (eqb-false _ _ (sym no-not)))
    (kind_not_read read (eqb-false _ _ (sym no-both)))
    c.eq-pending.result (rw read at (sym either)) c.put.ensures
