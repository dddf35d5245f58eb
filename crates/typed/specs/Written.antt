-- The limits of a text, and the table that it is written to: document 02, P1.
use Rattle.std.specs.Prelude.{◌≡◌, Bool, ◌||◌, List, ℕ, ◌*◌, ◌≤◌, ltb, length, get_or}
use Rattle.table.specs.Entry.{entry_in}
use Rattle.postorder.specs.Order.{size, Ordered}
use Rattle.grammar.specs.Tree.{Tree, signs, formula}
use Rattle.grammar.specs.Measure.{any_over}

-- 12: over 1,024 bytes, a number over 255 or over 64 entries
abbrev pub over_limit : List ℕ → Tree → Bool
over_limit text t = ltb 1024 (length text) || any_over (signs t) || ltb 64 (size (formula t))

-- the table holds the entries of the tree's formula in their order, and behind them what it held before
pub record Written (t : Tree) (before after : List ℕ) : Type 0 where
  pub as_long : length after ≡ length before
  pub entries : Ordered (entry_in after) 0 (formula t)
  pub behind : (i : ℕ) → 4 * size (formula t) ≤ i → get_or after i 0 ≡ get_or before i 0
