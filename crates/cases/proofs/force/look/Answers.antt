use mathlib.Core.Path.{◌≡◌}
use mathlib.Core.Bool.{Bool}
use Prim.Native.Nat.{ℕ}
use native.Mathlib.Omega.{arith}
use Rattle.sets.specs.Set.{member, but_not}
use Rattle.sets.specs.Word.{Greatest}
use Rattle.table.specs.declared.entry.Entry.{Entry}
use Rattle.wants.specs.declared.Wants.{Wants}
use Rattle.std.specs.Prelude.{Some, None}
use Rattle.cases.specs.World.{Ready, Waiting}
use Rattle.cases.proofs.Splitting.{inside}
use Rattle.cases.proofs.Forcing.{ruled_more, unseen, forced_none, forced_next, unseen_fewer}
use Rattle.cases.proofs.force.look.Goals as goal

-- the entry at hand is pending
waits : {entry : ℕ → Entry} {n bound depth d : ℕ} {v : Wants} → Ready entry n v bound depth → (seen rest : ℕ → Bool)
    → rest ≡ but_not (member v.pending) seen → Greatest rest d → Waiting entry n v d bound depth
waits ready seen rest is top = record { ready = ready; here = (unseen _ seen rest is top).0 }

pub loop-d-init : goal.loop-d-init
loop-d-init c = forced_none c.requires.0

pub returns : goal.returns
returns c = c.loop-d.invariant

pub force_at-requires : goal.force_at-requires
force_at-requires c = (waits c.loop-d.invariant.ready _ _ c.minus.ensures c.in-Some.ensures, ruled_more c.args.known c.loop-d.invariant c.requires.1)

pub returns-in_err-v : goal.returns-in_err-v
returns-in_err-v c = rw c.from_residual.ensures (forced_next c.loop-d.invariant None c.in_err-v.ensures)

pub with-seen-requires : goal.with-seen-requires
with-seen-requires c = omega (arith, inside (waits c.loop-d.invariant.ready _ _ c.minus.ensures c.in-Some.ensures), c.loop-d.invariant.ready.few)

-- and it was not seen
pub loop-d-smaller : goal.loop-d-smaller
loop-d-smaller c =
    let new = (unseen _ _ _ c.minus.ensures c.in-Some.ensures).1 in
    rw c.with-seen.ensures (unseen_fewer (member c.loop-d.seen) new (inside (waits c.loop-d.invariant.ready _ _ c.minus.ensures c.in-Some.ensures)))

pub loop-d-preserved : goal.loop-d-preserved
loop-d-preserved c = forced_next c.loop-d.invariant (Some c.in_ok-v.v) c.in_ok-v.ensures
