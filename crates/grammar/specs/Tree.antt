-- Trees of signs, and how closely signs bind: document 02, P1: "`!` and the counting signs bind closest, then `&`, then `|`. Equal
-- signs group leftwards."
--
--     or     = and | or `|` and
--     and    = prefix | and `&` prefix
--     prefix = `T` | `F` | fact | `(` or `)` | `!` prefix | counting pair prefix
use Rattle.std.specs.Prelude.{List, [], ◌∷◌, ◌++◌, ℕ, ◌<◌, ◌≤◌}
use Rattle.semantics.specs.Formula.{Formula, verum, falsum, fact, neg, conj, disj, at_least, at_most}
use Rattle.grammar.specs.declared.Leaf.{Leaf}
use Rattle.grammar.specs.declared.Prefix.{Prefix}
use Rattle.grammar.specs.declared.Join.{Join}
use Rattle.grammar.specs.declared.Sign.{Sign}

pub data Tree : Type 0 where
  leaf : Leaf → Tree
  bracketed : Tree → Tree
  prefixed : Prefix → Tree → Tree
  joined : Join → Tree → Tree → Tree

-- the signs of a tree, from left to right
unfoldable pub signs : Tree → List Sign
signs (leaf l) = Sign.Alone l ∷ []
signs (bracketed t) = Sign.Open ∷ signs t ++ (Sign.Close ∷ [])
signs (prefixed p t) = Sign.Before p ∷ signs t
signs (joined j s t) = signs s ++ (Sign.Between j ∷ signs t)

-- how closely a sign between operands binds
abbrev pub rank : Join → ℕ
rank Join.Or = 0
rank Join.And = 1

-- how closely a tree holds together: 2 for all but those of `&` and `|`
abbrev pub binding : Tree → ℕ
binding (leaf l) = 2
binding (bracketed t) = 2
binding (prefixed p t) = 2
binding (joined j s t) = rank j

-- A prefix has an operand that binds as closely as it does. Of `&` and `|`, the left operand binds at least as closely as the sign, and the
-- right one closer, since equal signs group leftwards.
unfoldable pub Grouped : Tree → Type 0
Grouped (leaf l) = Unit {0}
Grouped (bracketed t) = Grouped t
Grouped (prefixed p t) = (2 ≤ binding t) × Grouped t
Grouped (joined j s t) = (rank j ≤ binding s) × (rank j < binding t) × Grouped s × Grouped t

-- what a tree means: a formula
abbrev pub leaf_of : Leaf → Formula
leaf_of Leaf.True = verum
leaf_of Leaf.False = falsum
leaf_of (Leaf.Fact n) = fact n

abbrev pub prefix_of : Prefix → Formula → Formula
prefix_of Prefix.Not φ = neg φ
prefix_of (Prefix.AtLeast n r) φ = at_least n r φ
prefix_of (Prefix.AtMost n r) φ = at_most n r φ

abbrev pub join_of : Join → Formula → Formula → Formula
join_of Join.And φ ψ = conj φ ψ
join_of Join.Or φ ψ = disj φ ψ

unfoldable pub formula : Tree → Formula
formula (leaf l) = leaf_of l
formula (bracketed t) = formula t
formula (prefixed p t) = prefix_of p (formula t)
formula (joined j s t) = join_of j (formula s) (formula t)
