-- `sum_over` meets its contract. The invariant: the sum is that of the members passed, at most 2^42 for each. Each turn takes one more out.
use Rattle.std.proofs.Common.{◌≡◌, true, ℕ, ◌+◌, ◌*◌, ◌<◌, ◌≤◌}
use Rattle.sets.specs.Set.{member}
use Rattle.weights.specs.Weighed.{over}
use Rattle.weights.proofs.sum_over.Given as goal

abbrev pub invariant-loop-i : goal.invariant-loop-i
invariant-loop-i g l = record {
  inside : (i : ℕ) → member l.rest i ≡ true → i < 64;
  small : l.sum + 4398046511104 * over (member l.rest) (λ i. 1) ≤ 281474976710656;
  adds : (f : ℕ → ℕ) → ((i x : ℕ) → i < 64 → goal.F-post g l.value i x → x ≡ f i) → l.sum + over (member l.rest) f ≡ over (member l.initial.rest) f;
}

abbrev pub decreases-loop-i : goal.decreases-loop-i
decreases-loop-i g l = over (member l.rest) (λ i. 1)
