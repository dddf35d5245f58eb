-- Numbers that bytes spell, for every width: past the end they are 0, with each byte the bound is 256 times greater, and the same bytes
-- spell the same number.
use mathlib.Core.Path.{◌≡◌, refl}
use mathlib.Core.List.{List}
use Prim.Native.Nat.{ℕ, zero, suc, ◌+◌, ◌*◌, ◌^◌, ◌≤◌, ◌<◌}
use native.Mathlib.Nat.{pow-suc}
use native.Mathlib.Omega.{arith}
use lib.ListN.{length, get_or, get_or-eq_default}
use Rattle.packed.specs.Bytes.{big_endian_of}

pub past_end : (bytes : List ℕ) (at width : ℕ) → length bytes ≤ at → big_endian_of bytes at width ≡ 0
unfolding big_endian_of
past_end bytes at zero h = refl
past_end bytes at (suc width) h =
    let missing : get_or bytes (at + width) 0 ≡ 0 = get_or-eq_default bytes 0 (omega arith) in
    omega (arith, past_end bytes at width h)

pub byte_more : (width : ℕ) {x b : ℕ} → x < 256 ^ width → b < 256 → x * 256 + b < 256 ^ suc width
byte_more width h l = rw pow-suc (omega arith)

pub same_bytes : (bytes bytes' : List ℕ) (at width : ℕ) → ((k : ℕ) → at ≤ k → k < at + width → get_or bytes k 0 ≡ get_or bytes' k 0)
    → big_endian_of bytes at width ≡ big_endian_of bytes' at width
unfolding big_endian_of
same_bytes bytes bytes' at zero same = refl
same_bytes bytes bytes' at (suc width) same =
    rw (same_bytes bytes bytes' at width (λ k l h. same k l (omega arith)), same (at + width) (omega arith) (omega arith)) refl
