-- The fields of a packed word, most significant bit first.
use Rattle.std.specs.Prelude.{ℕ, ◌/◌, ◌%◌, ◌^◌}

-- the number that `width` bits spell, the lowest of them bit `at` of the word
abbrev pub field : ℕ → ℕ → ℕ → ℕ
field word at width = word / 2 ^ at % 2 ^ width
