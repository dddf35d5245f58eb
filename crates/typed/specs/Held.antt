-- What the writer of a table holds while it reads signs: entries that are written, and a stack of signs that wait for an operand, each with
-- the number of brackets open where it stands. An inner contract.
use Rattle.std.specs.Prelude.{◌≡◌, Bool, true, false, ◌&&◌, List, [], ◌∷◌, ℕ, suc, ◌+◌, ◌*◌, ◌≤◌, eqb, leb, ltb, length, get_or}
use Rattle.table.specs.declared.entry.Entry.{Entry}
use Rattle.table.specs.Entry.{entry_of, entry_in}
use Rattle.postorder.specs.Order.{inner, size, plain, named, negated, joining, counting, Ordered}
use Rattle.grammar.specs.declared.Leaf.{Leaf}
use Rattle.grammar.specs.declared.Prefix.{Prefix}
use Rattle.grammar.specs.declared.Join.{Join}
use Rattle.grammar.specs.Tree.{Tree, formula}
use Rattle.grammar.specs.Parser.{Frame, bracket, waiting, left, State, operand, operator, failed}
use Rattle.typed.specs.declared.pending.Waiting.{Waiting}

-- the entry of each sign, with the entries that it refers to
abbrev pub entry_of_leaf : Leaf → Entry
entry_of_leaf Leaf.True = plain 0
entry_of_leaf Leaf.False = plain 1
entry_of_leaf (Leaf.Fact n) = named n

abbrev pub entry_of_prefix : Prefix → ℕ → Entry
entry_of_prefix Prefix.Not first = negated first
entry_of_prefix (Prefix.AtLeast n r) first = counting 6 n r first
entry_of_prefix (Prefix.AtMost n r) first = counting 7 n r first

abbrev pub entry_of_join : Join → (first second : ℕ) → Entry
entry_of_join Join.And first second = joining 4 first second
entry_of_join Join.Or first second = joining 5 first second

-- a waiting entry with its last operand
abbrev pub is_join : ℕ → Bool
is_join kind = leb 4 kind && ltb kind 6

abbrev pub operand_put : Bool → Entry → ℕ → Entry
operand_put true e last = record { kind = e.kind; name = e.name; first = e.first; second = last; grade = e.grade }
operand_put false e last = record { kind = e.kind; name = e.name; first = last; second = e.second; grade = e.grade }

-- how closely the sign of an entry binds
abbrev pub choose : Bool → ℕ → ℕ → ℕ
choose true a b = a
choose false a b = b

abbrev pub rank_of : ℕ → ℕ
rank_of kind = choose (eqb kind 4) 1 (choose (eqb kind 5) 0 2)

-- in a place of the stack that holds no sign
abbrev pub nothing : Waiting
nothing = record { word = 0; depth = 0 }

-- frames, as k waiting signs at c open brackets, with n entries of operands
unfoldable pub Waits : (stack : List Waiting) → (ℕ → Entry) → List Frame → (k c n : ℕ) → Type 0
Waits stack entry [] k c n = (k ≡ 0) × (c ≡ 0) × (n ≡ 0)
Waits stack entry (bracket ∷ fs) k c n = (d : ℕ) × (c ≡ suc d) × Waits stack entry fs k d n
Waits stack entry (waiting p ∷ fs) k c n =
    (i : ℕ) × (k ≡ suc i) × ((get_or stack i nothing).depth ≡ c) × (entry_of (get_or stack i nothing).word ≡ entry_of_prefix p 0) × Waits stack entry fs i c n
Waits stack entry (left j s ∷ fs) k c n =
    (i : ℕ) × (b : ℕ) × (k ≡ suc i) × (n ≡ b + size (formula s)) × ((get_or stack i nothing).depth ≡ c)
    × (entry_of (get_or stack i nothing).word ≡ entry_of_join j (b + inner (formula s)) 0)
    × Ordered entry b (formula s)
    × Waits stack entry fs i c b

-- frames, and an operand behind theirs
pub record Holding (stack : List Waiting) (table : List ℕ) (k c n : ℕ) (fs : List Frame) (t : Tree) : Type 0 where
  pub base : ℕ
  pub frames : Waits stack (entry_in table) fs k c base
  pub top : Ordered (entry_in table) base (formula t)
  pub count : n ≡ base + size (formula t)

-- a state of the reader
unfoldable pub At : (stack : List Waiting) (table : List ℕ) → (k c n : ℕ) → State → Type 0
At stack table k c n (operand fs) = Waits stack (entry_in table) fs k c n
At stack table k c n (operator fs t) = Holding stack table k c n fs t
At stack table k c n failed = ⊥

-- the table as long as before, and the same behind its first n entries
pub record Behind (n : ℕ) (before after : List ℕ) : Type 0 where
  pub as_long : length after ≡ length before
  pub same : (i : ℕ) → 4 * n ≤ i → get_or after i 0 ≡ get_or before i 0
