-- `sets::Set::contains` meets its contract: the bits from i on, cut to one, are bit i; from 64 on a word has no bits. The answers stand in
-- the order of the code, without the names of goals: a name tells the test before it, and an edit that turns the test is to fail at the fact.
use mathlib.Core.Path.{ap, sym, ◌∙◌}
use Prim.Native.Nat.{ℕ, ◌/◌, ◌^◌}
use lib.Bits.{and_mask}
use lib.Dec.{eqb}
use native.Mathlib.Omega.{arith}
use borrow.Author.Rules.{rules}
use borrow.Author.Tests.{le-ltb}
use Rattle.sets.specs.Word.{bit_at}
use Rattle.sets.specs.Set.{member}
use Rattle.sets.proofs.Words.{bit_high}
use Rattle.sets.proofs.Set.contains.Statement.{statement}
use Rattle.sets.proofs.Set.contains.Tie as tie

pub contains_spec : {M : Type 1} → statement M
unfolding member bit_at
contains_spec =
    tie.close
    (tie.spec
    (λ c. search rules)
    (λ c. let a = c.args in ap (λ (x : ℕ). eqb x 1) (and_mask (a.self.bits / 2 ^ a.i) 1))
    (λ c. le-ltb c.args.i 64 (omega arith) ∙ sym (bit_high {w = 64} (search rules) (omega arith))))
