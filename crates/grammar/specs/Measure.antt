-- What is looked for in signs: numbers over 255; and what is counted in them: entries.
use Rattle.std.specs.Prelude.{Bool, false, ◌||◌, List, [], ◌∷◌, ℕ, min, ◌+◌, ltb}
use Rattle.grammar.specs.declared.Leaf.{Leaf}
use Rattle.grammar.specs.declared.Prefix.{Prefix}
use Rattle.grammar.specs.declared.Sign.{Sign}

-- a sign with a number over 255
abbrev pub over : Sign → Bool
over (Sign.Alone Leaf.True) = false
over (Sign.Alone Leaf.False) = false
over (Sign.Alone (Leaf.Fact n)) = ltb 255 n
over (Sign.Before Prefix.Not) = false
over (Sign.Before (Prefix.AtLeast n r)) = ltb 255 n || ltb 255 r
over (Sign.Before (Prefix.AtMost n r)) = ltb 255 n || ltb 255 r
over (Sign.Between j) = false
over Sign.Open = false
over Sign.Close = false

unfoldable pub any_over : List Sign → Bool
any_over [] = false
any_over (s ∷ ss) = over s || any_over ss

-- What follows is an inner contract.

-- "Each `T`, `F`, fact, `!`, `&`, `|` and counting pair makes one entry": brackets make none
abbrev pub weight : Sign → ℕ
weight (Sign.Alone l) = 1
weight (Sign.Before p) = 1
weight (Sign.Between j) = 1
weight Sign.Open = 0
weight Sign.Close = 0

unfoldable pub entries : List Sign → ℕ
entries [] = 0
entries (s ∷ ss) = weight s + entries ss

-- the sign as a reader holds it: a number over 255 reads as 256
abbrev pub cut : Sign → Sign
cut (Sign.Alone Leaf.True) = Sign.Alone Leaf.True
cut (Sign.Alone Leaf.False) = Sign.Alone Leaf.False
cut (Sign.Alone (Leaf.Fact n)) = Sign.Alone (Leaf.Fact (min n 256))
cut (Sign.Before Prefix.Not) = Sign.Before Prefix.Not
cut (Sign.Before (Prefix.AtLeast n r)) = Sign.Before (Prefix.AtLeast (min n 256) (min r 256))
cut (Sign.Before (Prefix.AtMost n r)) = Sign.Before (Prefix.AtMost (min n 256) (min r 256))
cut (Sign.Between j) = Sign.Between j
cut Sign.Open = Sign.Open
cut Sign.Close = Sign.Close
