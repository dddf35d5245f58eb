-- `sets::Set::is_empty` meets its contract: no bit of 0 is set, and a word with no bit set is 0.
use mathlib.Core.Path.{◌∙◌, sym, ap, fun_ext}
use mathlib.Core.Bool.{Bool}
use Prim.Native.Nat.{ℕ}
use lib.Dec.{lit<}
use borrow.Author.Tests.{eqb-true, eq-eqb}
use borrow.Author.Rules.{rules}
use Rattle.sets.specs.Word.{bit_at}
use Rattle.sets.specs.Set.{member}
use Rattle.sets.proofs.Words.{bit_zero, bits_ext}
use Rattle.sets.proofs.Set.is_empty.Goals as goal

pub returns : goal.returns
unfolding member
returns c =
    let a = c.args.self.bits in (
      λ e. ap bit_at (eqb-true a 0 e) ∙ fun_ext bit_zero,
      λ e. eq-eqb a 0 (bits_ext 64 (search rules) (lit< tt) (λ i l. ap (λ (p : ℕ → Bool). p i) e ∙ sym (bit_zero i))),
    )
