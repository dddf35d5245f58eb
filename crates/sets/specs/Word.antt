-- A number as the row of its bits: bit i counts 2 ^ i.
use Rattle.std.specs.Prelude.{Bool, true, false, ◌≡◌, ℕ, zero, suc, ◌+◌, ◌*◌, ◌/◌, ◌%◌, ◌^◌, ◌<◌, eqb}
use Rattle.semantics.specs.Count.{bit}

-- is bit i of the number set
unfoldable pub bit_at : ℕ → ℕ → Bool
bit_at a i = eqb (a / 2 ^ i % 2) 1

-- the word of a test: the number below 2 ^ n whose bit i is p i
unfoldable pub word : (ℕ → Bool) → ℕ → ℕ
word p zero = 0
word p (suc n) = bit (p n) * 2 ^ n + word p n

-- i is the greatest number that passes the test
pub record Greatest (p : ℕ → Bool) (i : ℕ) : Type 0 where
  pub here : p i ≡ true
  pub above : (j : ℕ) → i < j → p j ≡ false
