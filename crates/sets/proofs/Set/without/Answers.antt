-- `sets::Set::without` meets its contract: bit i is taken out; from 64 on there is none to take out.
use mathlib.Core.Bool.{Bool, false, not, ◌&&◌, and_comm}
use mathlib.Core.Path.{◌≡◌, refl, ap, ◌∙◌, fun_ext}
use mathlib.Core.Logic.{by_cases}
use Prim.Native.Nat.{ℕ, ◌*◌, ◌^◌}
use native.Mathlib.Nat.{mod-lt}
use native.Mathlib.Decide.{ℕ_discrete}
use lib.Dec.{eqb}
use lib.Pow.{pow_pos}
use borrow.Author.Tests.{eq-eqb, ne_eqb}
use borrow.Author.Rules.{rules}
use Rattle.sets.specs.Word.{bit_at}
use Rattle.sets.specs.Set.{member, removed}
use Rattle.sets.proofs.Words.{bit_high, bit_minus, bit_shl}
use Rattle.sets.proofs.Set.without.Goals as goal

-- what is not there is not missed
absent : (p : ℕ → Bool) (i j : ℕ) → p i ≡ false → p j ≡ removed p i j
absent p i j h = by_cases (ℕ_discrete j i) (λ (e : j ≡ i). rw (e, eq-eqb i i refl) h) (λ (n : ¬ (j ≡ i)). rw (ne_eqb j i n))

pub returns-then-i-ge64 : goal.returns-then-i-ge64
unfolding member
returns-then-i-ge64 c =
    let a = c.args in
    fun_ext (λ j. absent (member a.self) a.i j (bit_high {w = 64} (search rules) c.if-i-ge64.true))

pub returns-else-i-ge64 : goal.returns-else-i-ge64
unfolding member
returns-else-i-ge64 c =
    let a = c.args.self.bits in
    let i = c.args.i in
    fun_ext (λ j.
    bit_minus 64 (search rules) (mod-lt (1 * 2 ^ i) (pow_pos 64)) j ∙ ap (λ (b : Bool). bit_at a j && not b) (bit_shl c.if-i-ge64.false j)
    ∙ and_comm (bit_at a j) (not (eqb j i)))
