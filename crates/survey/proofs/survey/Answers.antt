use mathlib.Core.Path.{sym, ◌∙◌}
use Rattle.survey.proofs.Seen.{none_seen, one_more, nowhere, finishes}
use Rattle.survey.proofs.survey.Goals as goal

pub loop-sign-init : goal.loop-sign-init
loop-sign-init c = none_seen _

pub returns-in_default : goal.returns-in_default
returns-in_default c =
    rw c.finish.ensures (finishes c.loop-sign.invariant c.sign_at-lexed.result c.sign_at-lexed.ensures c.in_default.not-Found)

pub returns-in_err-mode : goal.returns-in_err-mode
returns-in_err-mode c =
    rw c.from_residual.ensures (nowhere c.loop-sign.invariant _ c.in-Found.ensures (sym c.step.ensures ∙ c.in_err-mode.was))

pub loop-sign-preserved : goal.loop-sign-preserved
loop-sign-preserved c =
    rw c.entries_of.ensures (one_more c.loop-sign.invariant _ _ c.in-Found.ensures (sym c.step.ensures ∙ c.in_ok-mode.was))
