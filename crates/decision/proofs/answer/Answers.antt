-- `answer` meets its contract: the entry is decided in the first words, which are cleared then.
use mathlib.Core.Path.{◌≡◌, sym, ap, ◌∙◌}
use Prim.Native.Nat.{◌≤◌}
use lib.ListN.{length}
use Rattle.table.specs.Entry.{entry_in}
use Rattle.table.specs.Formulas.{depth_at}
use Rattle.table.specs.Space.{table_work}
use Rattle.table.proofs.Accepted.{accepted_small}
use Rattle.table.proofs.Shallow.{accepted_shallow}
use Rattle.decision.specs.Decide.{entry_work}
use Rattle.decision.proofs.Clearing.{cleared_over}
use Rattle.decision.proofs.Pair.{one_depth}
use Rattle.decision.proofs.answer.Goals as goal
use Rattle.decision.proofs.answer.Goals.{After-pair_depth-depth, After-work_words-needed}

depth_is : (c : goal.After-pair_depth-depth) → c.pair_depth-depth.result ≡ depth_at (entry_in c.args.table.now) c.args.e
depth_is c = c.pair_depth-depth.ensures ∙ one_depth _ _

pub work_words-needed-requires : goal.work_words-needed-requires
work_words-needed-requires c =
    let (ok, inside, enough) = c.requires in
    (accepted_small _ ok, rw (depth_is c) (accepted_shallow _ ok _ inside))

-- what is needed of words
needed : (c : goal.After-work_words-needed) → c.work_words-needed.result ≡ entry_work c.args.table.now c.args.e
needed c = c.work_words-needed.ensures ∙ ap (table_work c.args.table.now) (c.pair_depth-depth.ensures ∙ one_depth _ _)

-- and there are as many
room : (c : goal.After-work_words-needed) → c.work_words-needed.result ≤ length c.args.words.now
room c = rw (needed c) c.requires.2

pub returns : goal.returns
returns c =
    let start = (goal.at.returns c).After-work_words-needed in
    (c.decided-found.ensures, rw (sym (needed start)) (cleared_over c.work_words-needed.result c.decided-found.new.words c.args.words.now c.decided-found.auto.words (room start) c.clear.ensures))
