-- `taken` meets its contract, step by step: one that is not refused has room for its entry, and a name that there is.
use borrow.Author.Rules.{rules}
use Rattle.history.proofs.Answers.{back_room}
use Rattle.draft.proofs.stepping.taken.Goals as goal

pub back_to-requires : goal.back_to-requires
back_to-requires c = back_room _ _ (record { entries = search rules; saved = search rules }) (rw c.in-Back.is at c.requires)
