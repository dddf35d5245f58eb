use mathlib.Core.Path.{◌≡◌}
use Prim.Native.Nat.{ℕ, suc, ◌+◌, ◌*◌, ◌-◌, ◌<◌}
use native.Mathlib.Omega.{arith}
use lib.ListN.{length}
use borrow.Author.Rules.{rules}
use Rattle.packed.proofs.Putting.{Putting, none_put, inside, one_put, all_put}
use Rattle.packed.proofs.put.Goals as goal

module _ (c : goal.In-loop-k) where
  abbrev at : ℕ
  at = c.args.width * c.args.i

  -- the byte that this turn writes is one of those still to write
  next : Putting at c.args.width c.args.number c.args.bytes.now
      (suc (c.loop-k.k - 1)) c.loop-k.rest c.loop-k.bytes
  next = let e : c.loop-k.k ≡ suc (c.loop-k.k - 1) = omega arith in rw e at c.loop-k.invariant

  room : at + (c.loop-k.k - 1) < length c.loop-k.bytes
  room = inside _ _ _ _ c.requires.0 _ _ _ next

pub loop-k-init : goal.loop-k-init
loop-k-init c = none_put _ _ _ _ c.requires.1

pub overflow_add-bytes : goal.overflow_add-bytes
overflow_add-bytes c = let h = room c in search rules

pub bounds-bytes-at : goal.bounds-bytes-at
bounds-bytes-at c = room c

pub loop-k-preserved : goal.loop-k-preserved
loop-k-preserved c = one_put _ _ _ _ c.requires.0 _ _ _ (next c)

pub returns : goal.returns
returns c = let e : c.loop-k.k ≡ 0 = omega arith in all_put _ _ _ _ _ _ (rw e at c.loop-k.invariant)
