-- `decided` meets its contract: the entry is asked about in the wide words, where it means the same.
use mathlib.Core.Path.{◌≡◌}
use native.Mathlib.Nat.{le_of_eq}
use native.Mathlib.Omega.{arith}
use lib.ListN.{length, take}
use lib.Seq.{length-take-le}
use Rattle.table.specs.Entry.{size}
use Rattle.table.proofs.Accepted.{accepted_small}
use Rattle.wide.proofs.Widening.{wide_stands}
use Rattle.decision.proofs.Question.{table_there, stands_answer}
use Rattle.decision.proofs.decided.Goals as goal

pub work_words-size-requires : goal.work_words-size-requires
work_words-size-requires c = let (ok, inside, deep, enough) = c.requires in (accepted_small _ ok, omega arith)

pub possible-requires : goal.possible-requires
possible-requires c =
    let (ok, inside, deep, enough) = c.requires in
    let (widened, ready) = c.prepare-entries.ensures in
    let asked : length (take (size c.args.table.now) c.prepare-entries.result) ≡ size c.args.table.now = length-take-le _ c.prepare-entries.result (omega (arith, accepted_small _ ok)) in
    rw asked (ready, table_there _ _ enough widened _ (inside, le_of_eq deep))

pub returns : goal.returns
returns c =
    let (ok, inside, deep, enough) = c.requires in
    let widened = c.prepare-entries.ensures.0 in
    stands_answer (wide_stands widened _ inside) c.possible.result c.possible.ensures.0
