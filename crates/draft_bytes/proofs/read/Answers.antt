-- `read` meets its contract: the parts of the draft.
use borrow.Author.Rules.{rules}
use Rattle.history.specs.Shown.{draft_in}
use Rattle.history.proofs.Steps.{same_draft}
use Rattle.draft_bytes.proofs.Calls.{listed_by_calls}
use Rattle.draft_bytes.proofs.read.Goals as goal

pub returns : goal.returns
unfolding draft_in
returns c =
    same_draft
    (listed_by_calls _ _ _ (λ i y q call. search rules) _ _ c.from_fn.ensures.items)
    (listed_by_calls _ _ _ (λ i y q call. search rules) _ _ c.from_fn-2.ensures.items)
    (search rules)
