-- `step` meets its contract: what is refused stays, what is taken makes another draft.
use mathlib.Core.Path.{refl, sym, ◌∙◌}
use borrow.Author.Rules.{rules}
use Rattle.history.proofs.Answers.{refused_answers, taken_answers}
use Rattle.draft.proofs.step.Goals as goal

pub returns-in-Ok : goal.returns-in-Ok
returns-in-Ok c =
    taken_answers _ _ (record { entries = search rules; saved = search rules }) (sym c.in-Ok.is ∙ c.check_step.ensures) refl c.taken.ensures

pub returns-in-Err : goal.returns-in-Err
returns-in-Err c =
    refused_answers _ _ (record { entries = search rules; saved = search rules }) (sym c.in-Err.is ∙ c.check_step.ensures) refl
