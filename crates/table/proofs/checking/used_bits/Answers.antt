-- `used_bits` meets its contract: one computed test over the eight rows of the constant table.
use mathlib.Core.Path.{refl}
use mathlib.Core.List.{List, [], ◌∷◌}
use Prim.Native.Nat.{ℕ}
use lib.Dec.{eqb}
use lib.ListN.{get_or}
use borrow.Author.Rules.{rules}
use borrow.Author.Tests.{eqb-true}
use Rattle.semantics.specs.Count.{count}
use Rattle.semantics.proofs.Count.{count_all}
use Rattle.table.specs.Check.{uses_of}
use Rattle.table.specs.Mask.{bits_used}
use Rattle.table.proofs.checking.used_bits.Goals as goal

rows : List ℕ
rows = 0xf000_0000 ∷ 0xf000_0000 ∷ 0xfff0_0000 ∷ 0xf00f_c000 ∷ 0xf00f_ff00 ∷ 0xf00f_ff00 ∷ 0xffff_c0ff ∷ 0xffff_c0ff ∷ []

pub returns : goal.returns
unfolding rows uses_of count
returns c = eqb-true _ _ (count_all (λ k. eqb (get_or rows k 0) (bits_used (uses_of k))) 8 refl c.args.kind (search rules))
