-- `next_word` meets its contract: an entry of an accepted table refers to entries before it, whose words are there.
use mathlib.Core.Path.{sym, ap, ◌∙◌}
use Rattle.semantics.specs.Formula.{Formula}
use Rattle.semantics.specs.Truth.{truth}
use Rattle.sets.specs.Word.{word}
use Rattle.table.specs.declared.entry.Entry.{Entry}
use Rattle.table.specs.Entry.{entry_in}
use Rattle.table.specs.Formulas.{formula_of, formula_at}
use Rattle.table.specs.Formed.{Fitting}
use Rattle.table.proofs.Accepted.{accepted_formed, formula_rule}
use Rattle.truth_table.proofs.next_word.Goals as goal

pub returns : goal.returns
returns c s all few served before =
    let a = c.args in
    let entry = entry_in a.table.now in
    let wf = accepted_formed a.table.now c.requires.0 in
    let same = c.entry_at-e.ensures in
    let fits : Fitting c.entry_at-e.result a.i = rw same (wf a.i c.requires.1) in
    c.entry_word.ensures s (formula_at entry) all few (rw (same, c.item_or.ensures) served)
    (λ u. c.item_or-first.ensures ∙ before _ (fits.first u))
    (λ u. c.item_or-second.ensures ∙ before _ (fits.second u))
    ∙ ap (λ (e : Entry). word (truth s (formula_of (formula_at entry) e)) s.worlds) same
    ∙ ap (λ (φ : Formula). word (truth s φ) s.worlds) (sym (formula_rule wf a.i c.requires.1))
