-- `marked` meets its contract: the entries are compared in the first words, which are cleared then.
use mathlib.Core.Path.{◌≡◌, sym, ap, ◌∙◌}
use Prim.Native.Nat.{◌≤◌}
use lib.ListN.{length}
use Rattle.table.specs.Space.{table_work}
use Rattle.table.proofs.Accepted.{accepted_small}
use Rattle.decision.specs.Call.{pair_work}
use Rattle.decision.proofs.Clearing.{cleared_over}
use Rattle.decision.proofs.Pair.{pair_shallow}
use Rattle.mark.proofs.marked.Goals as goal
use Rattle.mark.proofs.marked.Goals.{After-work_words-needed}

pub work_words-needed-requires : goal.work_words-needed-requires
work_words-needed-requires c =
    let (ok, model, answer, enough) = c.requires in
    (accepted_small _ ok, rw c.pair_depth-depth.ensures (pair_shallow _ _ _ ok model answer))

-- what is needed of words
needed : (c : goal.After-work_words-needed)
    → c.work_words-needed.result ≡ pair_work c.args.table.now c.args.model c.args.answer
needed c = c.work_words-needed.ensures ∙ ap (table_work c.args.table.now) c.pair_depth-depth.ensures

-- and there are as many
room : (c : goal.After-work_words-needed) → c.work_words-needed.result ≤ length c.args.words.now
room c = rw (needed c) c.requires.3

pub returns : goal.returns
returns c =
    let start = (goal.at.returns c).After-work_words-needed in
    (c.compared-found.ensures, rw (sym (needed start)) (cleared_over c.work_words-needed.result c.compared-found.new.words c.args.words.now c.compared-found.auto.words (room start) c.clear.ensures))
