-- The packed records of a structure: document 01, "The drawn build", where a structure is called a build.
use Rattle.std.specs.Prelude.{List, ℕ, ◌+◌, ◌*◌, ◌/◌, length}
use Rattle.packed.specs.Bytes.{big_endian_of}
use Rattle.packed.specs.Field.{field}
use Rattle.structure.specs.declared.record.Record.{Record}

-- a 2-bit kind; then 6 bits, the number of worlds less 1 of a header, the world of a fact, the `from` of a link;
-- then 8, the name of a fact or the relation of a link; then 6, the `to` of a link; then 2, the copies of a link less 1. The others are zero bits
abbrev pub record_of : ℕ → Record
record_of word =
    record { kind = field word 22 2; world = field word 16 6; name = field word 8 8; to = field word 2 6; copies = field word 0 2 }

-- the i-th three bytes as a 24-bit word, most significant first
unfoldable pub triple_in : List ℕ → ℕ → ℕ
triple_in bytes i = big_endian_of bytes (3 * i) 3

-- record i of the structure that the bytes pack
abbrev pub record_in : List ℕ → ℕ → Record
record_in bytes i = record_of (triple_in bytes i)

-- how many records there are
abbrev pub records : List ℕ → ℕ
records bytes = length bytes / 3

-- how many worlds there are: one more than the header, the first record, says
abbrev pub worlds_of : (ℕ → Record) → ℕ
worlds_of row = (row 0).world + 1
