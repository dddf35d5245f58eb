-- `beyond` meets its contract: one entry alone is wanted true, the other alone false.
use mathlib.Core.Path.{◌≡◌, ap, ◌∙◌}
use mathlib.Core.Bool.{Bool}
use Prim.Native.Nat.{ℕ}
use Rattle.sets.specs.Set.{member, nothing, added}
use Rattle.mark.proofs.Question.{pair_answer}
use Rattle.mark.proofs.beyond.Goals as goal
use Rattle.mark.proofs.beyond.Goals.{After-with-no, After-with-yes}

-- the sets of one entry each
first : (c : goal.After-with-yes) → member c.with-yes.result ≡ added nothing c.args.e
first c = c.with-yes.ensures ∙ ap (λ (p : ℕ → Bool). added p c.args.e) c.empty.ensures

second : (c : goal.After-with-no) → member c.with-no.result ≡ added nothing c.args.other
second c = c.with-no.ensures ∙ ap (λ (p : ℕ → Bool). added p c.args.other) c.empty-2.ensures

pub returns : goal.returns
returns c =
    let (answer, ready) = c.ask.ensures in
    (pair_answer _ _ _ c.ask.result (rw (first (goal.at.returns c).After-with-yes, second (goal.at.returns c).After-with-no) at answer), ready)
