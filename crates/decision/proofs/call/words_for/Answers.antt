-- `words_for` meets its contract: an accepted table is small and shallow.
use mathlib.Core.Path.{◌≡◌, sym, ◌∙◌}
use native.Mathlib.Omega.{arith}
use Rattle.faults.specs.Verdict.{accepted}
use Rattle.table.specs.Check.{table_verdict}
use Rattle.table.proofs.Accepted.{accepted_small}
use Rattle.decision.proofs.Pair.{pair_shallow}
use Rattle.decision.proofs.call.words_for.Goals as goal

pub work_words-requires : goal.work_words-requires
work_words-requires c =
    let ok : table_verdict c.args.table.now ≡ accepted = sym c.check.ensures ∙ c.in_ok-check.was in
    (accepted_small _ ok, rw c.pair_depth-depth.ensures (pair_shallow _ _ _ ok (omega arith) (omega arith)))
