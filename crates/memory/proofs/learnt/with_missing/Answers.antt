-- `with_missing` meets its contract: where nothing is missing there is no world, and where one entry is, no world makes it so.
use Rattle.std.proofs.Common.{◌≡◌, ℕ, ◌^◌, ◌<◌, true, sym, refl, ◌∙◌, true≢false, arith, rules}
use mathlib.Core.Logic.{by_cases}
use native.Mathlib.Decide.{dec_lt}
use Rattle.sets.specs.declared.Set.{Set}
use Rattle.sets.specs.Set.{member, nothing, removed}
use Rattle.sets.proofs.Words.{bit_high}
use Rattle.memory.proofs.Easier.{ruled_all, ruled_true, ruled_false}
use Rattle.memory.proofs.learnt.with_missing.Goals as goal
use Rattle.memory.proofs.learnt.with_missing.Goals.{Else-not-is_empty}

-- a set has numbers below 64 only
small : (s : Set) → s.bits < 2 ^ 64 → {i : ℕ} → member s i ≡ true → i < 64
unfolding member
small s narrow {i} h = by_cases (dec_lt i 64) (λ (less : i < 64). less) (λ (g : ¬ (i < 64)). absurd (true≢false (sym h ∙ bit_high {w = 64} narrow (omega arith))))

-- it is the only one
only : (c : goal.Else-not-is_empty) → removed (member c.args.missing) c.in_ok-i.i ≡ nothing
only c = sym c.without.ensures ∙ c.is_empty.ensures.0 c.if-not-is_empty.false

pub returns-in_err-i : goal.returns-in_err-i
returns-in_err-i c = rw c.from_residual.ensures (ruled_all c.args.truth c.in_err-i.ensures)

pub with-requires : goal.with-requires
with-requires c = small c.args.missing (search rules) c.in_ok-i.ensures.here

pub with-requires-else-truth : goal.with-requires-else-truth
with-requires-else-truth c = small c.args.missing (search rules) c.in_ok-i.ensures.here

pub returns-then-truth : goal.returns-then-truth
returns-then-truth c = rw c.if-truth.true (ruled_true c.in_ok-i.i (only (goal.at.returns-then-truth c).Else-not-is_empty) c.with.ensures refl)

pub returns-else-truth : goal.returns-else-truth
returns-else-truth c = rw c.if-truth.false (ruled_false c.in_ok-i.i (only (goal.at.returns-else-truth c).Else-not-is_empty) c.with-else-truth.ensures refl)
