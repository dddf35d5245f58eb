-- `possible` meets its contract: the entry alone is wanted true.
use mathlib.Core.Path.{◌≡◌, ap, ◌∙◌}
use mathlib.Core.Bool.{Bool}
use Prim.Native.Nat.{ℕ}
use Rattle.sets.specs.Set.{member, nothing, added}
use Rattle.decision.proofs.Question.{entry_answer}
use Rattle.decision.proofs.ask.possible.Goals as goal
use Rattle.decision.proofs.ask.possible.Goals.{After-with-yes}

-- the set of the entry alone
alone : (c : goal.After-with-yes) → member c.with-yes.result ≡ added nothing c.args.e
alone c = c.with-yes.ensures ∙ ap (λ (p : ℕ → Bool). added p c.args.e) c.empty.ensures

pub returns : goal.returns
returns c =
    let (answer, ready) = c.ask.ensures in
    (entry_answer _ _ c.ask.result (rw (alone (goal.at.returns c).After-with-yes, c.empty-no.ensures) at answer), ready)
