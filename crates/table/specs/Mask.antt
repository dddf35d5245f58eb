-- The fields that a kind uses, as bits of a packed 32-bit entry: what the code's constant table holds, row by row.
use Rattle.std.specs.Prelude.{Bool, true, false, ℕ, ◌+◌, ◌*◌, ◌^◌}
use Rattle.table.specs.Check.{Uses}

abbrev pub on_bits : Bool → ℕ → ℕ
on_bits true bits = bits
on_bits false bits = 0

-- the bits of the kind, and of the fields used
abbrev pub bits_used : Uses → ℕ
bits_used u =
    15 * 2 ^ 28 + on_bits u.name 255 * 2 ^ 20 + on_bits u.first 63 * 2 ^ 14 + on_bits u.second 63 * 2 ^ 8 + on_bits u.grade 255
