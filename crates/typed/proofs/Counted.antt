-- What is counted in signs: entries, and numbers over 255.
use mathlib.Core.Path.{◌≡◌, refl}
use mathlib.Core.Bool.{false}
use mathlib.Core.List.{List, [], ◌∷◌, ◌++◌}
use Prim.Native.Nat.{ℕ, min, ◌+◌}
use native.Mathlib.Omega.{arith}
use lib.Dec.{ltb}
use borrow.Author.Tests.{ltb-false}
use Rattle.faults.proofs.Each.{neither}
use Rattle.postorder.specs.Order.{size}
use Rattle.grammar.specs.declared.Leaf.{Leaf}
use Rattle.grammar.specs.declared.Prefix.{Prefix}
use Rattle.grammar.specs.declared.Sign.{Sign}
use Rattle.grammar.specs.Tree.{Tree, leaf, bracketed, prefixed, joined, signs, formula}
use Rattle.grammar.specs.Measure.{over, any_over, entries, cut}
use Rattle.typed.proofs.Entries.{leaf_inner, prefix_inner, join_inner}

pub entries_append : (xs ys : List Sign) → entries (xs ++ ys) ≡ entries xs + entries ys
unfolding entries
entries_append [] ys = omega arith
entries_append (x ∷ xs) ys = omega (arith, entries_append xs ys)

-- a text makes as many entries as its formula has
pub entries_size : (t : Tree) → entries (signs t) ≡ size (formula t)
unfolding entries signs formula
entries_size (leaf l) = omega (arith, leaf_inner l)
entries_size (bracketed t) = omega (arith, entries_append (signs t) (Sign.Close ∷ []), entries_size t)
entries_size (prefixed p t) = omega (arith, prefix_inner p (formula t), entries_size t)
entries_size (joined j s t) =
    omega (arith, entries_append (signs s) (Sign.Between j ∷ signs t), join_inner j (formula s) (formula t), entries_size s, entries_size t)

-- a sign of signs without a number over 255 has none
pub small_here : (xs ys : List Sign) (s : Sign) → any_over (xs ++ s ∷ ys) ≡ false → over s ≡ false
unfolding any_over
small_here [] ys s none = (neither (over s) (any_over ys) none).0
small_here (x ∷ xs) ys s none = small_here xs ys s (neither (over x) (any_over (xs ++ s ∷ ys)) none).1

uncut : (n : ℕ) → ltb 255 n ≡ false → min n 256 ≡ n
uncut n small = omega (arith, ltb-false 255 n small)

-- and is held as it is
pub small_cut : (s : Sign) → over s ≡ false → cut s ≡ s
small_cut (Sign.Alone Leaf.True) small = refl
small_cut (Sign.Alone Leaf.False) small = refl
small_cut (Sign.Alone (Leaf.Fact n)) small = rw (uncut n small) refl
small_cut (Sign.Before Prefix.Not) small = refl
small_cut (Sign.Before (Prefix.AtLeast n r)) small =
    let both = neither (ltb 255 n) (ltb 255 r) small in
    rw (uncut n both.0, uncut r both.1) refl
small_cut (Sign.Before (Prefix.AtMost n r)) small =
    let both = neither (ltb 255 n) (ltb 255 r) small in
    rw (uncut n both.0, uncut r both.1) refl
small_cut (Sign.Between j) small = refl
small_cut Sign.Open small = refl
small_cut Sign.Close small = refl
