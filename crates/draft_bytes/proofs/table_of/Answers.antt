-- `table_of` meets its contract: 16, then 10, then the entries.
use mathlib.Core.Path.{◌≡◌, sym, ◌∙◌}
use native.Mathlib.Omega.{arith}
use borrow.Author.Rules.{rules}
use Rattle.std.specs.Prelude.{Err}
use Rattle.draft_bytes.proofs.Tables.{not_given_table, short_table, full_table}
use Rattle.draft_bytes.proofs.table_of.Goals as goal

pub returns-in_err-check_draft : goal.returns-in_err-check_draft
returns-in_err-check_draft c =
    let told : c.from_residual.result ≡ Err c.in_err-check_draft.field-0.0 = search rules in
    rw told
    (not_given_table _ (record { entries = search rules; saved = search rules }) _
    (sym c.check_draft.ensures ∙ c.in_err-check_draft.was) _)

pub returns-then-table-entries : goal.returns-then-table-entries
returns-then-table-entries c =
    short_table _ (record { entries = search rules; saved = search rules })
    (sym c.check_draft.ensures ∙ c.in_ok-check_draft.was) _ (omega (arith, c.if-table-entries.true))

pub returns : goal.returns
returns c =
    full_table _ (record { entries = search rules; saved = search rules })
    (sym c.check_draft.ensures ∙ c.in_ok-check_draft.was) _ _ (omega (arith, c.if-table-entries.false))
    c.write_words.ensures
