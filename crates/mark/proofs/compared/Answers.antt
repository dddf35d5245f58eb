-- `compared` meets its contract: the entries are compared in the wide words, where they mean the same.
use mathlib.Core.Path.{◌≡◌}
use native.Mathlib.Omega.{arith}
use lib.ListN.{length, take}
use lib.Seq.{length-take-le}
use Rattle.table.specs.Entry.{size}
use Rattle.table.proofs.Accepted.{accepted_small}
use Rattle.wide.proofs.Widening.{wide_stands}
use Rattle.decision.proofs.Question.{table_there}
use Rattle.mark.proofs.Same.{mark_same}
use Rattle.mark.proofs.compared.Goals as goal

pub work_words-size-requires : goal.work_words-size-requires
work_words-size-requires c = (accepted_small _ c.requires.accepted, omega arith)

pub compare-requires : goal.compare-requires
compare-requires c =
    let asked = c.requires in
    let (widened, ready) = c.prepare-entries.ensures in
    let front : length (take (size c.args.table.now) c.prepare-entries.result) ≡ size c.args.table.now = length-take-le _ c.prepare-entries.result (omega (arith, accepted_small _ asked.accepted)) in
    rw front
    (record {
      ready = ready;
      first = table_there _ _ asked.enough widened _ asked.first;
      second = table_there _ _ asked.enough widened _ asked.second;
    })

pub returns : goal.returns
returns c =
    let asked = c.requires in
    let widened = c.prepare-entries.ensures.0 in
    mark_same _ _ _ _ (λ s w inside. (wide_stands widened _ asked.first.0).same s w) (λ s w inside. (wide_stands widened _ asked.second.0).same s w)
    c.compare.result c.compare.ensures
