-- What reading a number finds. An inner contract.
use Rattle.std.specs.Prelude.{Option, Some, None, ◌≡◌, List, ℕ, suc, min, ◌+◌, ◌<◌, ◌≤◌, length, get_or}
use Rattle.numerals.specs.declared.Number.{Number}
use Rattle.numerals.specs.Numeral.{Digit, Numeral}

-- the numeral at a place ends where no digit follows
pub record Whole (text : List ℕ) (at end n : ℕ) : Type 0 where
  pub numeral : Numeral text at end n
  pub last : Digit (get_or text end 0) → ⊥

-- a number is read with the place behind it, and one over the limit as the limit and one
abbrev pub NumberIs : List ℕ → (at limit : ℕ) → Option Number → Type 0
NumberIs text at limit (Some number) =
    (n : ℕ) × Whole text at number.end n × (number.value ≡ min n (suc limit)) × (number.end ≤ length text)
NumberIs text at limit None = (end n : ℕ) → Whole text at end n → ⊥

-- the value of a byte that is a digit
abbrev pub DigitIs : ℕ → Option ℕ → Type 0
DigitIs b (Some d) = (d < 10) × (b ≡ 48 + d)
DigitIs b None = Digit b → ⊥
