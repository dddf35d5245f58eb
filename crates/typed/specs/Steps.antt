-- What the functions of the writer promise. An inner contract.
use Rattle.std.specs.Prelude.{◌≡◌, Bool, false, ◌&&◌, List, ℕ, ◌+◌, ◌-◌, ◌*◌, ◌<◌, ◌≤◌, eqb, leb, ltb, length, get_or}
use Rattle.table.specs.declared.entry.Entry.{Entry}
use Rattle.table.specs.Entry.{entry_of, entry_in}
use Rattle.grammar.specs.declared.Sign.{Sign}
use Rattle.grammar.specs.Tree.{Tree}
use Rattle.grammar.specs.Measure.{over, weight}
use Rattle.grammar.specs.Parser.{Frame, State, failed, rest, whole, step}
use Rattle.typed.specs.declared.pending.Writer.{Writer}
use Rattle.typed.specs.declared.pending.Waiting.{Waiting}
use Rattle.typed.specs.Held.{nothing, is_join, operand_put, rank_of, Holding, At, Behind}

-- the last waiting sign stands at this depth and binds at least as closely as asked
abbrev pub takes_now : (stack : List Waiting) → (k c b : ℕ) → Bool
takes_now stack k c b = ltb 0 k && (eqb ((get_or stack (k - 1) nothing).depth) c && leb b (rank_of (entry_of (get_or stack (k - 1) nothing).word).kind))

abbrev pub closed_entry : Entry → ℕ → Entry
closed_entry e last = operand_put (is_join e.kind) e last

-- nothing is written, and no sign waits
pub record Blank (writer : Writer) : Type 0 where
  pub entries : writer.entries ≡ 0
  pub pending : writer.pending ≡ 0
  pub depth : writer.depth ≡ 0

-- one more sign waits
pub record Pushed (e : Entry) (writer r : Writer) : Type 0 where
  pub entry : entry_of (get_or r.stack writer.pending nothing).word ≡ e
  pub opened : (get_or r.stack writer.pending nothing).depth ≡ writer.depth
  pub below : (i : ℕ) → i < writer.pending → get_or r.stack i nothing ≡ get_or writer.stack i nothing
  pub entries : r.entries ≡ writer.entries
  pub pending : r.pending ≡ writer.pending + 1
  pub depth : r.depth ≡ writer.depth

-- room for the entries of all signs that wait
pub record Room (table : List ℕ) (writer : Writer) : Type 0 where
  pub few : writer.entries + writer.pending ≤ 64
  pub lent : 4 * (writer.entries + writer.pending) ≤ length table

-- the last waiting sign's entry is written, with the last entry as its operand
pub record Closed (before after : List ℕ) (writer r : Writer) : Type 0 where
  pub is : r ≡ record { entries = writer.entries + 1; stack = writer.stack; pending = writer.pending - 1; depth = writer.depth }
  pub there : entry_in after writer.entries ≡ closed_entry (entry_of (get_or writer.stack (writer.pending - 1) nothing).word) (writer.entries - 1)
  pub in_front : (j : ℕ) → j < writer.entries → entry_in after j ≡ entry_in before j
  pub behind : Behind (writer.entries + 1) before after

-- waiting signs that bind at least as closely as b have taken their operand
pub record Settled (b : ℕ) (before after : List ℕ) (writer r : Writer) : Type 0 where
  pub total : r.entries + r.pending ≡ writer.entries + writer.pending
  pub some : writer.entries ≤ r.entries
  pub depth : r.depth ≡ writer.depth
  pub behind : Behind (writer.entries + writer.pending) before after
  pub holds : (fs : List Frame) (t : Tree) → Holding writer.stack before writer.pending writer.depth writer.entries fs t
      → Holding r.stack after r.pending r.depth r.entries (rest b fs) (whole b fs t)

-- room for one more sign
pub record Ready (sign : Sign) (table : List ℕ) (writer : Writer) : Type 0 where
  pub few : writer.entries + writer.pending + weight sign ≤ 64
  pub lent : 4 * (writer.entries + writer.pending + weight sign) ≤ length table
  pub small : over sign ≡ false
  pub shallow : writer.depth ≤ 1024

-- the sign was taken
pub record Took (sign : Sign) (before after : List ℕ) (writer r : Writer) : Type 0 where
  pub total : r.entries + r.pending ≡ writer.entries + writer.pending + weight sign
  pub behind : Behind (writer.entries + writer.pending + weight sign) before after
  pub shallow : r.depth ≤ writer.depth + 1
  pub holds : (σ : State) → At writer.stack before writer.pending writer.depth writer.entries σ → (step σ sign ≡ failed → ⊥)
      → At r.stack after r.pending r.depth r.entries (step σ sign)

-- a state that the sign does not fail
pub record Goes (sign : Sign) (table : List ℕ) (writer : Writer) : Type 0 where
  pub state : State
  pub at : At writer.stack table writer.pending writer.depth writer.entries state
  pub goes : step state sign ≡ failed → ⊥
