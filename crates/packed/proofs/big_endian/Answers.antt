use mathlib.Core.Path.{refl, sym}
use Prim.Native.Nat.{◌+◌, ◌*◌, ◌^◌, ◌≤◌, ◌<◌}
use native.Mathlib.Nat.{mul_comm, le-div_iff_mul-le, div-lt_iff_lt-mul, one-le-pow, pow-le-pow_right, lt_of_lt_of_le}
use native.Mathlib.Numerals.{add-one}
use native.Mathlib.Omega.{arith}
use lib.Dec.{lit<}
use lib.ListN.{length}
use borrow.Author.Rules.{rules}
use Rattle.packed.specs.Bytes.{big_endian_of}
use Rattle.packed.proofs.Bytes.{past_end, byte_more}
use Rattle.packed.proofs.big_endian.Goals as goal
use Rattle.packed.proofs.big_endian.Goals.{Else-bytes-width, In-loop-k}

pub returns-then-bytes-width : goal.returns-then-bytes-width
returns-then-bytes-width c =
    let a = c.args in
    let past : length a.bytes.now < a.i * a.width = (div-lt_iff_lt-mul c.requires.0).0 c.if-bytes-width.true in
    (sym (past_end a.bytes.now (a.width * a.i) a.width (rw (mul_comm a.width a.i) (omega arith))), one-le-pow a.width 256 (omega arith))

-- the place of the first byte is no further than the end
place : (c : goal.Else-bytes-width) → let a = c.args in a.width * a.i ≤ length a.bytes.now
place c =
    let a = c.args in
    rw (mul_comm a.width a.i) ((le-div_iff_mul-le c.requires.0).0 c.if-bytes-width.false)

pub loop-k-init : goal.loop-k-init
unfolding big_endian_of
loop-k-init c = (search rules, refl, search rules)

-- the bytes passed leave room for one more
small : (c : goal.In-loop-k) → c.loop-k.number < 2 ^ 56
small c =
    let most : c.loop-k.k ≤ 7 = omega (arith, c.requires) in
    lt_of_lt_of_le c.loop-k.invariant.2 (pow-le-pow_right (lit< tt) most)

pub loop-k-preserved : goal.loop-k-preserved
unfolding big_endian_of
loop-k-preserved c =
    let l = c.loop-k in
    (search rules, rw (add-one l.k) cc, rw (add-one l.k) (byte_more l.k l.invariant.2 (omega (arith, c.shared_slice_known-1.given (c.args.width * c.args.i + l.k)))))

pub whole-requires : goal.whole-requires
whole-requires c = let h = place (goal.at.whole-requires c).Else-bytes-width in (search rules, omega (arith, h, c.if-width-bytes.true))

pub overflow_mul-number : goal.overflow_mul-number
overflow_mul-number c = let h = small c in search rules

pub overflow_add-at : goal.overflow_add-at
overflow_add-at c = let h = place (goal.at.overflow_add-at c).Else-bytes-width in search rules

pub overflow_add-number : goal.overflow_add-number
overflow_add-number c = let h = small (goal.at.overflow_add-number c).In-loop-k in search rules
