use mathlib.Core.Path.{refl}
use Prim.Native.Nat.{◌+◌, ◌^◌, ◌≤◌, ◌<◌}
use native.Mathlib.Nat.{pow-le-pow_right, lt_of_lt_of_le}
use native.Mathlib.Numerals.{add-one}
use native.Mathlib.Omega.{arith}
use lib.Dec.{lit<}
use lib.ListN.{get_or}
use borrow.Author.Rules.{rules}
use Rattle.packed.specs.Bytes.{big_endian_of}
use Rattle.packed.proofs.Bytes.{byte_more}
use Rattle.packed.proofs.whole.Goals as goal
use Rattle.packed.proofs.whole.Goals.{In-loop-k}

pub loop-k-init : goal.loop-k-init
unfolding big_endian_of
loop-k-init c = (search rules, refl, search rules)

-- the bytes passed leave room for one more
small : (c : goal.In-loop-k) → c.loop-k.number < 2 ^ 56
small c =
    let most : c.loop-k.k ≤ 7 = omega (arith, c.requires) in
    lt_of_lt_of_le c.loop-k.invariant.2 (pow-le-pow_right (lit< tt) most)

-- the next byte is one
byte : (c : goal.After-shared_slice_known-1)
    → get_or c.args.bytes.now (c.args.at + c.loop-k.k) 0 < 256
byte c = omega (arith, c.shared_slice_known-1.given (c.args.at + c.loop-k.k))

pub loop-k-preserved : goal.loop-k-preserved
unfolding big_endian_of
loop-k-preserved c =
    let l = c.loop-k in
    (search rules, rw (add-one l.k, l.invariant.1) refl, rw (add-one l.k) (byte_more l.k l.invariant.2 (byte c)))

pub overflow_mul-number : goal.overflow_mul-number
overflow_mul-number c = let h = small c in search rules

pub overflow_add-number-in-loop-k : goal.overflow_add-number-in-loop-k
overflow_add-number-in-loop-k c = let h = small (goal.at.overflow_add-number-in-loop-k c).In-loop-k in let b = byte c in search rules
