-- `weigh` meets its contract: each value is the weight of its entry.
use Rattle.std.proofs.Common.{rules}
use Rattle.sets.specs.Set.{member}
use Rattle.weights.specs.Weighed.{weight_at}
use Rattle.weights.proofs.Sums.{weights_few}
use Rattle.weights.proofs.weigh.Goals as goal

pub returns : goal.returns
returns c =
    let a = c.args in
    let all = c.sum_over.ensures (weight_at a.words.now a.from) (λ i x l h. search rules) in
    (all, rw all (weights_few a.words.now a.from (member a.set)))
