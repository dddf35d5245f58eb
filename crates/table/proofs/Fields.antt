-- Masks and fields of a packed entry. A mask meets a word field by field, so a word has no bit in common with the
-- complement of the used bits exactly when every unused field is 0.
use mathlib.Core.Path.{◌≡◌, refl, sym, ap, ◌∙◌}
use mathlib.Core.Bool.{Bool, true, false, not, ◌&&◌, ◌||◌, not-not}
use Prim.Native.Nat.{ℕ, zero, suc, ◌+◌, ◌-◌, ◌*◌, ◌/◌, ◌%◌, ◌^◌, ◌<◌}
use native.Mathlib.Nat.{mod-lt, mod-mod, div-one, zero-mul, zero-add, suc-mul}
use native.Mathlib.Omega.{arith}
use lib.Bits.{bit_and, and_block, and_mask, and_zero_r}
use lib.Dec.{eqb, eqb-suc-zero}
use lib.Pow.{pow_pos, ones_lt, split, shr-shr}
use borrow.Author.Tests.{eq-eqb, ne_eqb, not-true, not-false}
use Rattle.packed.specs.Field.{field}
use Rattle.table.specs.Entry.{entry_of}
use Rattle.table.specs.Check.{Uses, uses_of, stray, has_stray}
use Rattle.table.specs.Mask.{on_bits, bits_used}

-- a mask meets the low k bits of a word and the bits above them one by one
and_split : (word k a b : ℕ) → b < 2 ^ k → bit_and word (a * 2 ^ k + b) ≡ bit_and (word / 2 ^ k) a * 2 ^ k + bit_and (word % 2 ^ k) b
and_split word k a b h =
    ap (λ (x : ℕ). bit_and x (a * 2 ^ k + b)) (sym (split word k)) ∙ and_block k (word / 2 ^ k) a (word % 2 ^ k) b (mod-lt word (pow_pos k)) h

-- two digits spell 0 where both are 0
digits_zero : (k a b : ℕ) → eqb (a * 2 ^ k + b) 0 ≡ eqb a 0 && eqb b 0
digits_zero k zero b = rw (zero-mul, zero-add)
digits_zero k (suc a) b = rw (ne_eqb (suc a * 2 ^ k + b) 0 (λ e. absurd (omega (arith, e, suc-mul a (2 ^ k), pow_pos k))), eqb-suc-zero)

-- the bits of a field are used or unused
used_or_unused : (used : Bool) (x : ℕ) → on_bits used x + on_bits (not used) x ≡ x
used_or_unused true x = omega arith
used_or_unused false x = omega arith

-- what the mask of an unused field leaves of it, and that of a used one
unused_part : (used : Bool) (k x : ℕ) → bit_and x (on_bits (not used) (2 ^ k - 1)) ≡ on_bits (not used) (x % 2 ^ k)
unused_part true k x = and_zero_r x
unused_part false k x = and_mask x k

stray_part : (used : Bool) (x : ℕ) → eqb (on_bits (not used) x) 0 ≡ not (stray used x)
stray_part true x = refl
stray_part false x = sym (not-not (eqb x 0))

-- the top field, and one more field below others
top_field : (word k : ℕ) (used : Bool) → eqb (bit_and word (on_bits (not used) (2 ^ k - 1))) 0 ≡ not (stray used (word % 2 ^ k))
top_field word k used = rw unused_part (stray_part used (word % 2 ^ k))

one_field : (word k a : ℕ) (used : Bool)
    → eqb (bit_and word (a * 2 ^ k + on_bits (not used) (2 ^ k - 1))) 0 ≡ eqb (bit_and (word / 2 ^ k) a) 0 && not (stray used (word % 2 ^ k))
one_field word k a used =
    ap (λ (x : ℕ). eqb x 0) (and_split word k a _ (bits_lt used)) ∙ digits_zero k _ _
    ∙ ap (λ (b : Bool). eqb (bit_and (word / 2 ^ k) a) 0 && b) (top_field (word % 2 ^ k) k used ∙ rw mod-mod)
  where
    bits_lt : (b : Bool) → on_bits (not b) (2 ^ k - 1) < 2 ^ k
    bits_lt true = pow_pos k
    bits_lt false = ones_lt k

neither : (a b : Bool) → not a && not b ≡ not (a || b)
neither true b = refl
neither false b = refl

module _ (word : ℕ) (u : Uses) where
  -- the complement of the used bits, field by field
  unused_bits : 4294967295 - bits_used u
      ≡ ((on_bits (not u.name) 255 * 2 ^ 6 + on_bits (not u.first) 63) * 2 ^ 6 + on_bits (not u.second) 63) * 2 ^ 8 + on_bits (not u.grade) 255
  unused_bits =
      omega (arith, used_or_unused u.name 255, used_or_unused u.first 63, used_or_unused u.second 63, used_or_unused u.grade 255)

  pub stray_bits_is : eqb (bit_and word (4294967295 - bits_used u)) 0
      ≡ not (stray u.name (field word 20 8) || stray u.first (field word 14 6) || stray u.second (field word 8 6) || stray u.grade (field word 0 8))
  stray_bits_is =
      rw (
        unused_bits,
        one_field word 8 _ u.grade,
        one_field (word / 2 ^ 8) 6 _ u.second,
        shr-shr word 8 6,
        one_field (word / 2 ^ 14) 6 _ u.first,
        shr-shr word 14 6,
        top_field (word / 2 ^ 20) 8 u.name,
        neither,
        neither,
        neither,
        div-one,
      )

-- the test of the code
module _ (word : ℕ) where
  abbrev pub stray_bits : ℕ
  stray_bits = bit_and word (4294967295 - bits_used (uses_of (entry_of word).kind))

  pub stray_found : (stray_bits ≡ 0 → ⊥) → has_stray (entry_of word) ≡ true
  stray_found h = not-false _ (sym (stray_bits_is word (uses_of (entry_of word).kind)) ∙ ne_eqb stray_bits 0 h)

  pub stray_none : stray_bits ≡ 0 → has_stray (entry_of word) ≡ false
  stray_none e = not-true _ (sym (stray_bits_is word (uses_of (entry_of word).kind)) ∙ eq-eqb stray_bits 0 e)
