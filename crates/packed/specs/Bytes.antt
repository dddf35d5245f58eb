-- The numbers that bytes spell.
use Rattle.std.specs.Prelude.{◌≡◌, List, ℕ, zero, suc, ◌+◌, ◌*◌, ◌<◌, ◌≤◌, length, get_or}

-- the number that `width` bytes from a place on spell, the first byte highest; a byte past the end counts as 0
unfoldable pub big_endian_of : List ℕ → ℕ → ℕ → ℕ
big_endian_of bytes at zero = 0
big_endian_of bytes at (suc width) = big_endian_of bytes at width * 256 + get_or bytes (at + width) 0

-- a list after a number was written as the `width` bytes from a place on: they spell it, and the others are as they were
pub record Put (at width number : ℕ) (before after : List ℕ) : Type 0 where
  pub as_long : length after ≡ length before
  pub spelt : big_endian_of after at width ≡ number
  pub in_front : (k : ℕ) → k < at → get_or after k 0 ≡ get_or before k 0
  pub behind : (k : ℕ) → at + width ≤ k → get_or after k 0 ≡ get_or before k 0
