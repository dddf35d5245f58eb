-- The grammar: which tree a text is read as.
use Rattle.std.specs.Prelude.{List, ℕ}
use Rattle.grammar.specs.Text.{Signs}
use Rattle.grammar.specs.Tree.{Tree, signs, Grouped}

-- the signs of the text are those of the tree, and the tree is grouped as its signs bind
pub record Fits (text : List ℕ) (t : Tree) : Type 0 where
  pub signs : Signs text 0 (signs t)
  pub grouped : Grouped t
