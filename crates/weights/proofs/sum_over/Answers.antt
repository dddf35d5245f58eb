use Rattle.std.proofs.Common.{ℕ, true, not, eqb, arith, rules}
use native.Mathlib.Nat.{zero-add}
use Rattle.sets.specs.Set.{member}
use Rattle.sets.proofs.Tests.{both_parts}
use Rattle.weights.proofs.Sums.{member_below, over_removed, over_nothing, ones_few}
use Rattle.weights.proofs.sum_over.Goals as goal

pub loop-i-init : goal.loop-i-init
loop-i-init g c = record {
  inside = λ i h. member_below c.args.set (search rules) h;
  small = omega (arith, ones_few (member c.args.set));
  adds = λ f h. zero-add _;
}

pub value-sum-requires : goal.value-sum-requires
value-sum-requires g c = c.requires.callable c.in-Some.i (c.loop-i.invariant.inside c.in-Some.i c.in-Some.ensures.here)

pub overflow_add-sum : goal.overflow_add-sum
overflow_add-sum g c =
    let below = c.loop-i.invariant.inside c.in-Some.i c.in-Some.ensures.here in
    omega (
      arith,
      over_removed (member c.loop-i.rest) (λ i. 1) c.in-Some.ensures.here below,
      c.requires.small c.in-Some.i c.value-sum.result below c.value-sum.ensures,
      c.loop-i.invariant.small,
    )

pub loop-i-smaller : goal.loop-i-smaller
loop-i-smaller g c =
    let below = c.loop-i.invariant.inside c.in-Some.i c.in-Some.ensures.here in
    rw c.without-rest.ensures (omega (arith, over_removed (member c.loop-i.rest) (λ i. 1) c.in-Some.ensures.here below))

pub loop-i-preserved : goal.loop-i-preserved
loop-i-preserved g c =
    let below = c.loop-i.invariant.inside c.in-Some.i c.in-Some.ensures.here in
    let step = λ (f : ℕ → ℕ). over_removed (member c.loop-i.rest) f c.in-Some.ensures.here below in
    let few = c.requires.small c.in-Some.i c.value-sum.result below c.value-sum.ensures in
    rw c.without-rest.ensures
    (record {
      inside = λ i h. c.loop-i.invariant.inside i (both_parts true (not (eqb i c.in-Some.i)) (member c.loop-i.rest i) h).1;
      small = omega (arith, step (λ i. 1), few, c.loop-i.invariant.small);
      adds = λ f h. let here = h c.in-Some.i c.value-sum.result below c.value-sum.ensures in omega (arith, step f, here, c.loop-i.invariant.adds f h);
    })

pub returns : goal.returns
returns g c f h = omega (arith, c.loop-i.invariant.adds f h, over_nothing f c.in_default.ensures)
