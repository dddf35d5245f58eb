-- `left` meets its contract: each value is what its entry lacks, or the room under it, by its weight.
use Rattle.std.proofs.Common.{rules}
use Rattle.sets.specs.Set.{member}
use Rattle.weights.specs.Weighed.{left_weight}
use Rattle.weights.proofs.Sums.{left_few}
use Rattle.weights.proofs.left.Goals as goal

pub returns : goal.returns
returns c =
    let a = c.args in
    let all = c.sum_over.ensures (left_weight a.entries.now a.words.now a.slots a.from a.need) (λ i x l h. search rules) in
    (all, rw all (left_few a.words.now a.from a.entries.now a.slots a.need (member a.set)))
