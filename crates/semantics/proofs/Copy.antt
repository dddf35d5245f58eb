-- A structure that stands within another, its world w as the world f w, keeps its truths.
-- Why: where the facts and the links out of each of its worlds are the same, so is what a formula can tell, by induction on the formula.
use mathlib.Core.Path.{◌≡◌, refl, ap, ap₂, ◌∙◌}
use mathlib.Core.Bool.{Bool, not, ◌&&◌, ◌||◌}
use Prim.Native.Nat.{ℕ, ◌<◌}
use lib.Dec.{leb}
use Rattle.semantics.specs.Formula.{Formula, verum, falsum, fact, neg, conj, disj, at_least, at_most}
use Rattle.semantics.specs.Structure.{Structure, successors}
use Rattle.semantics.specs.Truth.{truth}
use Rattle.semantics.proofs.Sum.{sum_same}

-- a stands in c, its world w as f w: the facts agree, and as many copies of links as in a lead from f w to worlds that pass a test
pub record Copy (a c : Structure) (f : ℕ → ℕ) : Type 0 where
  pub facts : (p w : ℕ) → w < a.worlds → c.holds p (f w) ≡ a.holds p w
  pub counts : (r w : ℕ) (p : ℕ → Bool) → w < a.worlds → successors c r (f w) p ≡ successors a r w (λ v. p (f v))

module _ {a c : Structure} {f : ℕ → ℕ} (copy : Copy a c f) where
  -- a count is kept where the truth of the counted formula is
  copy_successors : (r w : ℕ) (φ : Formula) → w < a.worlds → ((v : ℕ) → v < a.worlds → truth c φ (f v) ≡ truth a φ v)
      → successors c r (f w) (truth c φ) ≡ successors a r w (truth a φ)
  copy_successors r w φ h same = copy.counts r w (truth c φ) h ∙ sum_same a.worlds (λ v l. rw same)

  pub copy_truth : (φ : Formula) (w : ℕ) → w < a.worlds → truth c φ (f w) ≡ truth a φ w
  unfolding truth
  copy_truth verum w h = refl
  copy_truth falsum w h = refl
  copy_truth (fact p) w h = copy.facts p w h
  copy_truth (neg φ) w h = ap not (copy_truth φ w h)
  copy_truth (conj φ ψ) w h = ap₂ ◌&&◌ (copy_truth φ w h) (copy_truth ψ w h)
  copy_truth (disj φ ψ) w h = ap₂ ◌||◌ (copy_truth φ w h) (copy_truth ψ w h)
  copy_truth (at_least n r φ) w h = ap (leb n) (copy_successors r w φ h (copy_truth φ))
  copy_truth (at_most n r φ) w h = ap (λ (k : ℕ). leb k n) (copy_successors r w φ h (copy_truth φ))
