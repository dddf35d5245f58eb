-- What writing a text's table takes and leaves. An inner contract.
use Rattle.std.specs.Prelude.{◌≡◌, false, List, ℕ, ◌*◌, ◌≤◌, length}
use Rattle.postorder.specs.Order.{size}
use Rattle.grammar.specs.Tree.{Tree, formula}
use Rattle.grammar.specs.Fits.{Fits}
use Rattle.typed.specs.Written.{over_limit, Written}

-- a text with a tree within the limits, and bytes enough for it
pub record Writable (text table : List ℕ) : Type 0 where
  pub tree : Tree
  pub fits : Fits text tree
  pub limits : over_limit text tree ≡ false
  pub lent : 4 * size (formula tree) ≤ length table

abbrev pub WrittenFor : (text before after : List ℕ) → Type 0
WrittenFor text before after = (t : Tree) → Fits text t → Written t before after
