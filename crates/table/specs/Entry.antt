-- The packed entries of a table: document 01, "The description table".
use Rattle.std.specs.Prelude.{◌≡◌, List, ℕ, ◌+◌, ◌*◌, ◌/◌, ◌<◌, ◌≤◌, length, get_or}
use Rattle.packed.specs.Bytes.{big_endian_of}
use Rattle.packed.specs.Field.{field}
use Rattle.table.specs.declared.entry.Entry.{Entry}

-- kind 4 bits, name 8, first 6, second 6, grade 8, most significant first
abbrev pub entry_of : ℕ → Entry
entry_of word =
    record { kind = field word 28 4; name = field word 20 8; first = field word 14 6; second = field word 8 6; grade = field word 0 8 }

-- the i-th four bytes as a 32-bit word, most significant first
unfoldable pub word_in : List ℕ → ℕ → ℕ
word_in bytes i = big_endian_of bytes (4 * i) 4

-- entry i of the table that the bytes pack
abbrev pub entry_in : List ℕ → ℕ → Entry
entry_in bytes i = entry_of (word_in bytes i)

-- how many entries the table has (document 01: n)
abbrev pub size : List ℕ → ℕ
size bytes = length bytes / 4

-- an entry whose fields fit their bits
pub record Packable (e : Entry) : Type 0 where
  pub kind : e.kind < 16
  pub name : e.name < 256
  pub first : e.first < 64
  pub second : e.second < 64
  pub grade : e.grade < 256

-- a table after entry i was written: the entries before it, and the bytes behind it, are as they were
pub record PutEntry (i : ℕ) (e : Entry) (before after : List ℕ) : Type 0 where
  pub as_long : length after ≡ length before
  pub there : entry_in after i ≡ e
  pub in_front : (j : ℕ) → j < i → entry_in after j ≡ entry_in before j
  pub behind : (k : ℕ) → 4 * i + 4 ≤ k → get_or after k 0 ≡ get_or before k 0
