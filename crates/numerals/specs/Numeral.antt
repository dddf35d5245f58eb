-- Decimal numbers in a text: document 02, P1: "Decimal numbers have no leading zero, except that zero is `0`."
use Rattle.std.specs.Prelude.{◌≡◌, List, ℕ, zero, suc, ◌+◌, ◌*◌, ◌-◌, ◌<◌, ◌≤◌, get_or}

-- the bytes `0` to `9`
abbrev pub Digit : ℕ → Type 0
Digit b = (48 ≤ b) × (b < 58)

-- the number that `width` digits from a place on spell, the first digit highest
unfoldable pub decimal : List ℕ → ℕ → ℕ → ℕ
decimal text at zero = 0
decimal text at (suc width) = decimal text at width * 10 + (get_or text (at + width) 0 - 48)

-- the bytes of the text from `at` up to `end` are the decimal number n
pub record Numeral (text : List ℕ) (at end n : ℕ) : Type 0 where
  pub some : at < end
  pub digits : (i : ℕ) → at ≤ i → i < end → Digit (get_or text i 0)
  -- no leading zero, except that zero is `0`
  pub plain : get_or text at 0 ≡ 48 → end ≡ at + 1
  pub value : n ≡ decimal text at (end - at)
