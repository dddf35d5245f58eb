-- `sets::Set::with` meets its contract: bit i is set, and the others are as they were.
use mathlib.Core.Bool.{Bool, ◌||◌, or_comm}
use mathlib.Core.Path.{ap, ◌∙◌, fun_ext}
use Prim.Native.Nat.{◌*◌, ◌%◌, ◌^◌}
use lib.Dec.{eqb}
use Rattle.sets.specs.Word.{bit_at}
use Rattle.sets.specs.Set.{member}
use Rattle.sets.proofs.Words.{bit_of_or, bit_shl}
use Rattle.sets.proofs.Set.with.Goals as goal

pub returns : goal.returns
unfolding member
returns c =
    let a = c.args.self.bits in
    let i = c.args.i in
    fun_ext (λ j. bit_of_or a (1 * 2 ^ i % 2 ^ 64) j ∙ ap (λ (b : Bool). bit_at a j || b) (bit_shl c.requires j) ∙ or_comm (bit_at a j) (eqb j i))
