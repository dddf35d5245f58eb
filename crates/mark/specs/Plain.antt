-- The mark by structures without copies, where a link is there or not (source 001, definition 2.1, as it is published). Document 02, P7: c copies act
-- like c like worlds, so every mark is as it was.
use Rattle.std.specs.Prelude.{◌≡◌, true, false, ℕ, ◌<◌}
use Rattle.semantics.specs.Formula.{Formula}
use Rattle.semantics.specs.Plain.{Plain, plain_truth, PlainSatisfiable}
use Rattle.mark.specs.declared.Mark.{Mark}

-- the two are true at the same worlds of all finite structures without copies
abbrev pub PlainSame : Formula → Formula → Type 0
PlainSame φ ψ = (s : Plain) (w : ℕ) → w < s.worlds → plain_truth s φ w ≡ plain_truth s ψ w

-- where φ is true, ψ is
abbrev pub PlainInside : Formula → Formula → Type 0
PlainInside φ ψ = (s : Plain) (w : ℕ) → w < s.worlds → plain_truth s φ w ≡ true → plain_truth s ψ w ≡ true

-- at some world of some such structure φ is true and ψ is not
pub record PlainBeyond (φ ψ : Formula) : Type 0 where
  pub structure : Plain
  pub world : ℕ
  pub inside : world < structure.worlds
  pub holds : plain_truth structure φ world ≡ true
  pub fails : plain_truth structure ψ world ≡ false

-- the mark fits the model and the answer
abbrev pub PlainMarkIs : (model answer : Formula) → Mark → Type 0
PlainMarkIs model answer Mark.Equal = PlainSatisfiable answer × PlainSame model answer
PlainMarkIs model answer Mark.Narrower = PlainSatisfiable answer × PlainInside answer model × PlainBeyond model answer
PlainMarkIs model answer Mark.Wider = PlainSatisfiable answer × PlainInside model answer × PlainBeyond answer model
PlainMarkIs model answer Mark.Crossing = PlainSatisfiable answer × PlainBeyond answer model × PlainBeyond model answer
PlainMarkIs model answer Mark.Impossible = PlainSatisfiable answer → ⊥
