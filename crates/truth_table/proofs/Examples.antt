-- The course's examples M1 to M9 (document 01), from the meaning alone: one table, one theorem.
use mathlib.Core.Path.{◌≡◌, refl}
use mathlib.Core.List.{List, [], ◌∷◌, map}
use Prim.Native.Nat.{ℕ}
use Rattle.semantics.specs.Formula.{Formula, verum, falsum, fact, neg, conj, at_least, at_most}
use Rattle.semantics.specs.Count.{sum}
use Rattle.semantics.specs.Structure.{Structure}
use Rattle.semantics.specs.Truth.{truth}
use Rattle.packed.specs.Bytes.{big_endian_of}
use Rattle.sets.specs.Word.{word}
use Rattle.structure.specs.Record.{triple_in}
use Rattle.structure.specs.Read.{some, greatest, stated, structure_of}

-- the build of document 01: three worlds, facts and links, one link stated twice
pub build : Structure
build =
    structure_of
    (0x02 ∷ 0x00 ∷ 0x00
    ∷ 0x41 ∷ 0x01 ∷ 0x00
    ∷ 0x42 ∷ 0x01 ∷ 0x00
    ∷ 0x42 ∷ 0x02 ∷ 0x00
    ∷ 0x80 ∷ 0x07 ∷ 0x04
    ∷ 0x80 ∷ 0x07 ∷ 0x08
    ∷ 0x80 ∷ 0x07 ∷ 0x04
    ∷ [])

-- a description and its word on the board
pub record Example : Type 0 where
  pub formula : Formula
  pub board : ℕ

example : Formula → ℕ → Example
example φ w = record { formula = φ; board = w }

pub examples : List Example
examples =
    example (at_least 2 7 (fact 1)) 1
    ∷ example (at_least 3 7 (fact 1)) 0
    ∷ example (at_most 1 7 (fact 2)) 7
    ∷ example (at_most 0 7 (fact 2)) 6
    ∷ example (at_least 0 7 falsum) 7
    ∷ example (neg (at_least 2 7 (fact 1))) 6
    ∷ example (at_least 1 8 (fact 1)) 0
    ∷ example (conj (fact 1) (neg (fact 2))) 2
    ∷ example (at_most 0 7 verum) 6
    ∷ []

pub m1_to_m9 : map (λ e. word (truth build e.formula) build.worlds) examples ≡ map (λ e. e.board) examples
unfolding build example examples truth sum word some greatest stated triple_in big_endian_of
m1_to_m9 = refl
