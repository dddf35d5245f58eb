-- A mark depends on truths only: formulas that are true at the same worlds have the same mark.
use mathlib.Core.Path.{sym, ◌∙◌}
use Rattle.semantics.specs.Formula.{Formula}
use Rattle.decision.proofs.Question.{satisfiable_same}
use Rattle.mark.specs.declared.Mark.{Mark}
use Rattle.mark.specs.Mark.{Same, Inside, Beyond, MarkIs}

module _ (φ φ' ψ ψ' : Formula) (one : Same φ φ') (other : Same ψ ψ') where
  inside_same : Inside φ ψ → Inside φ' ψ'
  inside_same all s w inside holds = sym (other s w inside) ∙ all s w inside (one s w inside ∙ holds)

  beyond_same : Beyond φ ψ → Beyond φ' ψ'
  beyond_same at = record {
    structure = at.structure;
    world = at.world;
    inside = at.inside;
    holds = sym (one at.structure at.world at.inside) ∙ at.holds;
    fails = sym (other at.structure at.world at.inside) ∙ at.fails;
  }

module _ (model model' answer answer' : Formula) (one : Same model model') (other : Same answer answer') where
  pub mark_same : (x : Mark) → MarkIs model answer x → MarkIs model' answer' x
  mark_same Mark.Equal (sat, same) = (satisfiable_same other sat, λ s w inside. sym (one s w inside) ∙ same s w inside ∙ other s w inside)
  mark_same Mark.Narrower (sat, within, lost) =
      (satisfiable_same other sat, inside_same answer answer' model model' other one within, beyond_same model model' answer answer' one other lost)
  mark_same Mark.Wider (sat, within, gained) =
      (satisfiable_same other sat, inside_same model model' answer answer' one other within, beyond_same answer answer' model model' other one gained)
  mark_same Mark.Crossing (sat, gained, lost) =
      (satisfiable_same other sat, beyond_same answer answer' model model' other one gained, beyond_same model model' answer answer' one other lost)
  mark_same Mark.Impossible none = λ sat. none (satisfiable_same (λ s w inside. sym (other s w inside)) sat)
