-- Every mark is as it is without copies. Why: the fourfold structure shows what holds with copies, and a structure without them is one whose links have
-- one copy each.
use mathlib.Core.Path.{◌≡◌, sym, ◌∙◌}
use mathlib.Core.Logic.Iff
use mathlib.Core.Logic.{◌↔◌}
use Prim.Native.Nat.{ℕ, ◌+◌, ◌*◌, ◌<◌}
use native.Mathlib.Omega.{arith}
use Rattle.semantics.specs.Formula.{Formula}
use Rattle.semantics.specs.Structure.{Structure}
use Rattle.semantics.specs.Truth.{truth}
use Rattle.semantics.specs.Plain.{plain_truth, single, fourfold}
use Rattle.semantics.proofs.Plain.{single_truth, fourfold_truth, satisfiable_plain}
use Rattle.mark.specs.declared.Mark.{Mark}
use Rattle.mark.specs.Mark.{Same, Inside, Beyond, MarkIs}
use Rattle.mark.specs.Plain.{PlainSame, PlainInside, PlainBeyond, PlainMarkIs}

-- the first standing of a world
first : (s : Structure) {w : ℕ} → w < s.worlds → 4 * w + 0 < (fourfold s).worlds
unfolding fourfold
first s h = omega arith

shown : (s : Structure) (φ : Formula) {w : ℕ} → w < s.worlds → plain_truth (fourfold s) φ (4 * w + 0) ≡ truth s φ w
shown s φ {w} h = fourfold_truth s φ w 0 h (omega arith)

module _ (φ ψ : Formula) where
  same_plain : Same φ ψ ↔ PlainSame φ ψ
  unfolding single
  same_plain = (
    λ same s w h. sym (single_truth s φ w h) ∙ same (single s) w h ∙ single_truth s ψ w h,
    λ same s w h. sym (shown s φ h) ∙ same (fourfold s) (4 * w + 0) (first s h) ∙ shown s ψ h,
  )

  inside_plain : Inside φ ψ ↔ PlainInside φ ψ
  unfolding single
  inside_plain = (
    λ within s w h holds. sym (single_truth s ψ w h) ∙ within (single s) w h (single_truth s φ w h ∙ holds),
    λ within s w h holds. sym (shown s ψ h) ∙ within (fourfold s) (4 * w + 0) (first s h) (shown s φ h ∙ holds),
  )

  -- a direction of the mark
  pub beyond_plain : Beyond φ ψ ↔ PlainBeyond φ ψ
  unfolding single
  beyond_plain = (
    λ found. record {
      structure = fourfold found.structure;
      world = 4 * found.world + 0;
      inside = first found.structure found.inside;
      holds = shown found.structure φ found.inside ∙ found.holds;
      fails = shown found.structure ψ found.inside ∙ found.fails;
    },
    λ found. record {
      structure = single found.structure;
      world = found.world;
      inside = found.inside;
      holds = single_truth found.structure φ found.world found.inside ∙ found.holds;
      fails = single_truth found.structure ψ found.world found.inside ∙ found.fails;
    },
  )

three : {A A' B B' C C' : Type 0} → A ↔ A' → B ↔ B' → C ↔ C' → (A × B × C) ↔ (A' × B' × C')
three a b c = (λ x. (a.0 x.0, b.0 x.1, c.0 x.2), λ x. (a.1 x.0, b.1 x.1, c.1 x.2))

pub plain_mark : (model answer : Formula) (m : Mark) → MarkIs model answer m ↔ PlainMarkIs model answer m
plain_mark model answer Mark.Equal = Iff.and (satisfiable_plain answer) (same_plain model answer)
plain_mark model answer Mark.Narrower = three (satisfiable_plain answer) (inside_plain answer model) (beyond_plain model answer)
plain_mark model answer Mark.Wider = three (satisfiable_plain answer) (inside_plain model answer) (beyond_plain answer model)
plain_mark model answer Mark.Crossing = three (satisfiable_plain answer) (beyond_plain answer model) (beyond_plain model answer)
plain_mark model answer Mark.Impossible = Iff.not (satisfiable_plain answer)
