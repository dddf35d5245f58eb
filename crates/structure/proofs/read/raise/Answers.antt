use mathlib.Core.Path.{◌≡◌, refl, ap, ◌∙◌}
use mathlib.Core.List.{List}
use mathlib.Core.Logic.{⊎_elim}
use Prim.Native.Nat.{ℕ, ◌+◌, ◌<◌}
use native.Mathlib.Nat.{add-zero, one-mul, mod-eq_of_lt, eq-or-lt_of_le}
use native.Mathlib.Omega.{arith}
use lib.Bits.{bit_or}
use lib.ListN.{length, get_or, set, length-set}
use lib.Pow.{pow-lt}
use lib.Seq.{get_or-set_same, get_or-set_other}
use borrow.Author.Rules.{rules}
use Rattle.structure.specs.Masks.{Raised}
use Rattle.structure.proofs.read.raise.Goals as goal
use Rattle.structure.proofs.read.raise.Goals.{At-loop-t, Start}

raised_none : (b at : ℕ) (masks : List ℕ) → Raised b at 0 masks masks
raised_none b at masks = record { same_length = refl; here = λ q from to. absurd (omega arith); elsewhere = λ q out. refl }

-- the next word
raised_next : {b at t : ℕ} {before after : List ℕ} → Raised b at t before after → at + t < length after
    → Raised b at (t + 1) before (set after (at + t) (bit_or (get_or after (at + t) 0) b))
raised_next {b} {at} {t} {before} {after} raised room = record {
  same_length = length-set after (at + t) _ ∙ raised.same_length;
  here = λ q from to.
      ⊎_elim
      (λ (e : q ≡ at + t). rw e (get_or-set_same after (at + t) _ 0 room ∙ ap (λ (x : ℕ). bit_or x b) (raised.elsewhere (at + t) (λ from to. omega arith))))
      (λ (l : q < at + t). get_or-set_other after (at + t) q _ 0 (omega arith) ∙ raised.here q from l)
      (eq-or-lt_of_le (omega arith));
  elsewhere = λ q out. get_or-set_other after (at + t) q _ 0 (λ e. out (omega arith) (omega arith)) ∙ raised.elsewhere q (λ from to. out from (omega arith));
}

-- the first word
first : {b at : ℕ} {masks : List ℕ} → at < length masks → Raised b at 1 masks (set masks at (bit_or (get_or masks at 0) b))
first {b} {at} {masks} room = rw (add-zero at) at (raised_next (raised_none b at masks) (rw (add-zero at) room))

same_length : (c : goal.At-loop-t) → length c.loop-t.masks ≡ length c.args.masks.now
same_length c = c.loop-t.invariant.2 ∙ length-set c.args.masks.now _ _

pub loop-t-preserved : goal.loop-t-preserved
loop-t-preserved c =
    let s = (goal.at.loop-t-preserved c).Start in
    let inv = c.loop-t.invariant in (
      search rules,
      search rules,
      length-set c.loop-t.masks _ _ ∙ inv.2,
      λ before raised. rw (one-mul, mod-eq_of_lt (pow-lt s.requires.0)) (raised_next (inv.3 before raised) (omega (arith, same_length (goal.at.loop-t-preserved c).At-loop-t, c.requires.2))),
    )

pub returns : goal.returns
returns c =
    let s = (goal.at.returns c).Start in
    let l = c.loop-t in
    let e : l.t ≡ s.args.n = omega arith in
    rw e at (l.invariant.3 s.args.masks.now (rw (one-mul, mod-eq_of_lt (pow-lt s.requires.0)) (first (omega (arith, s.requires.1, s.requires.2)))))
