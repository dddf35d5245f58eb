-- Sets as numbers. A set within c is no greater than c, and of the sets within c, the one that comes next below b has the number b - 1, cut to c.
-- Why: taking one clears the lowest bit of b and sets the bits below it, and the cut leaves those of c, which no set below b can exceed.
use mathlib.Core.Path.{◌≡◌, refl, ◌∙◌}
use mathlib.Core.Logic.{by_cases}
use mathlib.Core.Bool.{Bool, true, false, ◌&&◌, false≢true}
use Prim.Native.Nat.{ℕ, zero, ◌-◌, ◌/◌, ◌%◌, ◌^◌, ◌≤◌, ◌<◌}
use native.Mathlib.Decide.{ℕ_discrete}
use native.Mathlib.Omega.{arith}
use lib.Arith.{bin_ind}
use lib.Bits.{bit_and, and_step, and_le_l, and_le_r}
use Rattle.sets.specs.Word.{bit_at}
use Rattle.sets.specs.Set.{Within, NextBelow}
use Rattle.sets.proofs.Words.{bit_of_and, bits_ext}

-- ---- a number within another: nothing of it is cut off

half_within : (a c : ℕ) → bit_and a c ≡ a → bit_and (a / 2) (c / 2) ≡ a / 2
half_within a c h = omega (arith, and_step a c)

-- an odd b loses its lowest bit; of an even one the half goes down, and the lowest bit is then that of c
next_number : (b c x : ℕ) → bit_and b c ≡ b → bit_and x c ≡ x → x < b → x ≤ bit_and (b - 1) c
next_number =
    bin_ind (λ (b : ℕ). (c x : ℕ) → bit_and b c ≡ b → bit_and x c ≡ x → x < b → x ≤ bit_and (b - 1) c)
    (λ c x hb hx l. absurd (omega arith))
    (λ b ih c x hb hx l.
    by_cases (ℕ_discrete (b % 2) 0)
    (λ (even : b % 2 ≡ 0).
    let half : (b - 1) / 2 ≡ b / 2 - 1 = omega arith in
    omega (arith, rw half at (and_step (b - 1) c), and_step x c, ih (c / 2) (x / 2) (half_within b c hb) (half_within x c hx) (omega arith)))
    (λ (odd : ¬ (b % 2 ≡ 0)).
    let half : (b - 1) / 2 ≡ b / 2 = omega arith in
    omega (arith, rw half at (and_step (b - 1) c), half_within b c hb)))

-- ---- the same for the sets of their bits

and_left : (p q : Bool) → (p ≡ true → q ≡ true) → p && q ≡ p
and_left true q h = h refl
and_left false q h = refl

and_last : (p q : Bool) → p && q ≡ true → q ≡ true
and_last true q h = h
and_last false q h = absurd (false≢true h)

within_and : (w c : ℕ) {x : ℕ} → x < 2 ^ w → Within (bit_at x) (bit_at c) → bit_and x c ≡ x
within_and w c {x} h sub = bits_ext w (omega (arith, and_le_l x c)) h (λ i l. bit_of_and x c i ∙ and_left (bit_at x i) (bit_at c i) (sub i))

pub within_le : (w : ℕ) {x c : ℕ} → x < 2 ^ w → Within (bit_at x) (bit_at c) → x ≤ c
within_le w {x} {c} h sub = omega (arith, within_and w c h sub, and_le_r x c)

pub next_below : (w c : ℕ) {b : ℕ} → zero < b → b < 2 ^ w → Within (bit_at b) (bit_at c) → NextBelow (bit_at c) b (bit_and (b - 1) c)
next_below w c {b} pos h sub = record {
  smaller = omega (arith, and_le_l (b - 1) c);
  within = λ i e. and_last (bit_at (b - 1) i) (bit_at c i) (rw bit_of_and at e);
  greatest = λ x xs l. next_number b c x (within_and w c h sub) (within_and w c (omega arith) xs) l;
}
