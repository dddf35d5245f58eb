-- `clashes` meets its contract: each arm is a law of its kind, at the entry that was read.
use mathlib.Core.Path.{sym, ap, ◌∙◌}
use mathlib.Core.Bool.{Bool, not}
use Prim.Native.Nat.{ℕ}
use lib.Dec.{eqb}
use Rattle.wants.proofs.Reading.{kind_read}
use Rattle.wants.proofs.AtOnce.{true_clash, false_clash, fact_clash, least_clash}
use Rattle.wants.proofs.clashes.Goals as goal

pub has_fact-requires : goal.has_fact-requires
has_fact-requires c i h = c.requires.settled.below (not c.args.truth) i (ap (λ (p : ℕ → Bool). p i) (sym c.wanted-opposite.ensures) ∙ h)

pub returns-in-Some-True : goal.returns-in-Some-True
returns-in-Some-True c = true_clash c.requires c.args.truth (kind_read c.wide_at-at.ensures (rw c.in-Some-True.field-0-is at c.in-Some-True.ensures.known))

pub returns-in-Some-False : goal.returns-in-Some-False
returns-in-Some-False c = false_clash c.requires c.args.truth (kind_read c.wide_at-at.ensures (rw c.in-Some-False.field-0-is at c.in-Some-False.ensures.known))

pub returns-in-Some-Fact : goal.returns-in-Some-Fact
returns-in-Some-Fact c =
    let read = c.wide_at-at.ensures in
    fact_clash c.requires c.args.truth (kind_read read (rw c.in-Some-Fact.field-0-is at c.in-Some-Fact.ensures.known)) c.has_fact.result (rw (c.wanted-opposite.ensures, read) at c.has_fact.ensures)

pub returns-then-not-truth : goal.returns-then-not-truth
returns-then-not-truth c =
    let read = c.wide_at-at.ensures in
    least_clash c.requires c.args.truth (eqb c.wide_at-at.result.grade 0) (kind_read read (rw c.in-Some-AtLeast.field-0-is at c.in-Some-AtLeast.ensures.known)) (rw (c.if-not-truth.true, read))
