-- How often a test holds, in numbers; and sums.
use Rattle.std.specs.Prelude.{Bool, true, false, ℕ, zero, suc, ◌+◌}

-- 1 for true, 0 for false
abbrev pub bit : Bool → ℕ
bit true = 1
bit false = 0

-- how many of the numbers below a bound pass a test
unfoldable pub count : (ℕ → Bool) → ℕ → ℕ
count p zero = 0
count p (suc n) = bit (p n) + count p n

-- k where the test holds, and 0 where it does not
abbrev pub gain : Bool → ℕ → ℕ
gain true k = k
gain false k = 0

-- the sum of the numbers f 0, f 1, .. below a bound
unfoldable pub sum : (ℕ → ℕ) → ℕ → ℕ
sum f zero = 0
sum f (suc n) = f n + sum f n
