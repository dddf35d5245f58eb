-- The work space that document 01 asks for: "Possible, and the mark".
use Rattle.std.specs.Prelude.{List, [], ◌∷◌, ℕ, zero, suc, ◌+◌, ◌*◌, get_or}
use Rattle.table.specs.declared.entry.Entry.{Entry}
use Rattle.table.specs.Entry.{entry_in, size}

-- grade + 1 for an entry of kind 6 or 7, a row a kind
abbrev pub entry_weight : ℕ → ℕ → ℕ
entry_weight grade kind = get_or (0 ∷ 0 ∷ 0 ∷ 0 ∷ 0 ∷ 0 ∷ (grade + 1) ∷ (grade + 1) ∷ []) kind 0

abbrev pub weight : Entry → ℕ
weight e = entry_weight e.grade e.kind

-- document 01's G: the sum of (grade + 1) over every entry of kind 6 or 7, of the first n
unfoldable pub sum_of_grades : (ℕ → Entry) → ℕ → ℕ
sum_of_grades entry zero = 0
sum_of_grades entry (suc n) = weight (entry n) + sum_of_grades entry n

-- document 01's W, in 64-bit words: n entries, d the depth of the entry decided, g the G of the table
abbrev pub words_needed : ℕ → ℕ → ℕ → ℕ
words_needed n d g = 8 * (d + 1) * (2 * n + g + 4)

-- the W of a table, for a decision at depth d
abbrev pub table_work : List ℕ → ℕ → ℕ
table_work bytes d = words_needed (size bytes) d (sum_of_grades (entry_in bytes) (size bytes))
