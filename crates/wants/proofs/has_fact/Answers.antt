use mathlib.Core.Path.{sym, ap, ◌∙◌}
use mathlib.Core.Bool.{Bool, false≢true}
use Prim.Native.Nat.{ℕ}
use Rattle.sets.specs.Set.{member}
use Rattle.sets.proofs.Members.{left_all, left_without, count_removed}
use Rattle.wants.proofs.has_fact.Goals as goal

pub returns : goal.returns
returns c found =
    let none = rw c.in_default.is at c.highest.ensures in
    let left = c.loop-i.invariant.passing found.at found.inside found.fact in
    false≢true (ap (λ (p : ℕ → Bool). p found.at) (sym none) ∙ left)

pub returns-then-is_fact : goal.returns-then-is_fact
returns-then-is_fact c =
    let top = rw c.in-Some.is at c.highest.ensures in
    record { at = _; inside = c.loop-i.invariant.within _ top.here; fact = cc }

pub loop-i-smaller : goal.loop-i-smaller
loop-i-smaller c =
    let top = rw c.in-Some.is at c.highest.ensures in
    let rest = c.loop-i in
    rw c.without-rest.ensures (count_removed (member rest.rest) _ top.here (c.requires _ (rest.invariant.within _ top.here)))

pub loop-i-preserved : goal.loop-i-preserved
loop-i-preserved c = rw c.without-rest.ensures (left_without c.loop-i.invariant (cc))

pub loop-i-init : goal.loop-i-init
loop-i-init c = left_all _ _
