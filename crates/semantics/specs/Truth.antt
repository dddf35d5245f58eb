-- Truth at a world, clause by clause after source 001, definition 2.1; and satisfiable.
use Rattle.std.specs.Prelude.{◌≡◌, Bool, true, false, not, ◌&&◌, ◌||◌, ℕ, ◌<◌, leb}
use Rattle.semantics.specs.Formula.{Formula, verum, falsum, fact, neg, conj, disj, at_least, at_most}
use Rattle.semantics.specs.Structure.{Structure, successors}

unfoldable pub truth : Structure → Formula → ℕ → Bool
truth s verum w = true
truth s falsum w = false
truth s (fact p) w = s.holds p w
truth s (neg φ) w = not (truth s φ w)
truth s (conj φ ψ) w = truth s φ w && truth s ψ w
truth s (disj φ ψ) w = truth s φ w || truth s ψ w
truth s (at_least n r φ) w = leb n (successors s r w (truth s φ))
truth s (at_most n r φ) w = leb (successors s r w (truth s φ)) n

-- some world of some finite structure makes the formula true (document 01: possible)
pub record Satisfiable (φ : Formula) : Type 0 where
  pub structure : Structure
  pub world : ℕ
  pub inside : world < structure.worlds
  pub holds : truth structure φ world ≡ true
