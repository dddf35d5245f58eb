-- Truth with copies is truth without them, in another structure: in the fourfold one, and where every link has one copy.
-- Why: a world of the one and a world of the other that it shows have the same facts, and count the same where a test agrees; by induction on the formula.
use mathlib.Core.Path.{◌≡◌, refl, sym, ap, ap₂, ◌∙◌}
use mathlib.Core.Logic.{◌↔◌}
use mathlib.Core.Bool.{Bool, not, ◌&&◌, ◌||◌}
use Prim.Native.Nat.{ℕ, zero, suc, ◌+◌, ◌*◌, ◌/◌, ◌%◌, ◌<◌}
use native.Mathlib.Nat.{mul-suc}
use native.Mathlib.Omega.{arith}
use lib.Dec.{leb}
use Rattle.semantics.specs.Formula.{Formula, verum, falsum, fact, neg, conj, disj, at_least, at_most}
use Rattle.semantics.specs.Count.{count, sum}
use Rattle.semantics.specs.Structure.{Structure, successors}
use Rattle.semantics.specs.Truth.{truth, Satisfiable}
use Rattle.semantics.specs.Plain.{Plain, plain_successors, plain_truth, PlainSatisfiable, single, fourfold}
use Rattle.semantics.proofs.Count.{count_ext, count_add}
use Rattle.semantics.proofs.Sum.{sum_same, sum_bits, gain_once}
use Rattle.semantics.proofs.Levels.{gain_levels}

-- the world u of a shows the world f u of c, for the worlds below `worlds` of a
record Shows (a : Plain) (c : Structure) (f : ℕ → ℕ) : Type 0 where
  facts : (p u : ℕ) → u < a.worlds → a.holds p u ≡ c.holds p (f u)
  counts : (r u : ℕ) (p q : ℕ → Bool) → u < a.worlds → ((v : ℕ) → v < a.worlds → p v ≡ q (f v))
      → plain_successors a r u p ≡ successors c r (f u) q

module _ {a : Plain} {c : Structure} {f : ℕ → ℕ} (shows : Shows a c f) where
  shown_truth : (φ : Formula) (u : ℕ) → u < a.worlds → plain_truth a φ u ≡ truth c φ (f u)
  unfolding truth plain_truth
  shown_truth verum u h = refl
  shown_truth falsum u h = refl
  shown_truth (fact p) u h = shows.facts p u h
  shown_truth (neg φ) u h = ap not (shown_truth φ u h)
  shown_truth (conj φ ψ) u h = ap₂ ◌&&◌ (shown_truth φ u h) (shown_truth ψ u h)
  shown_truth (disj φ ψ) u h = ap₂ ◌||◌ (shown_truth φ u h) (shown_truth ψ u h)
  shown_truth (at_least n r φ) u h = ap (leb n) (shows.counts r u (plain_truth a φ) (truth c φ) h (shown_truth φ))
  shown_truth (at_most n r φ) u h = ap (λ (k : ℕ). leb k n) (shows.counts r u (plain_truth a φ) (truth c φ) h (shown_truth φ))

-- where every link has one copy, copies are counted as worlds are
shows_single : (s : Plain) → Shows s (single s) (λ u. u)
unfolding single
shows_single s = record {
  facts = λ p u h. refl;
  counts = λ r u p q h same.
      count_ext s.worlds (λ v l. ap (λ (b : Bool). s.links r u v && b) (same v l))
      ∙ sym (sum_same s.worlds (λ v l. gain_once (q v) (s.links r u v)) ∙ sum_bits _ s.worlds);
}

pub single_truth : (s : Plain) (φ : Formula) (w : ℕ) → w < s.worlds → truth (single s) φ w ≡ plain_truth s φ w
single_truth s φ w h = sym (shown_truth (shows_single s) φ w h)

-- worlds are counted four by four
count_fours : (p : ℕ → Bool) (n : ℕ) → count p (4 * n) ≡ sum (λ w. count (λ k. p (4 * w + k)) 4) n
unfolding count sum
count_fours p zero = refl
count_fours p (suc n) = rw (mul-suc 4 n) (omega (arith, count_add p (4 * n) 4, count_fours p n))

-- the world 4w + k is the k-th standing of w
stands : (w k : ℕ) → k < 4 → ((4 * w + k) / 4 ≡ w) × ((4 * w + k) % 4 ≡ k)
stands w k b = (omega arith, omega arith)

shows_fourfold : (s : Structure) → Shows (fourfold s) s (λ u. u / 4)
unfolding fourfold
shows_fourfold s = record {
  facts = λ p u h. refl;
  counts = λ r u p q h same.
      count_fours _ s.worlds
      ∙ sum_same s.worlds (λ v l.
      count_ext 4 (λ k b. rw (same (4 * v + k) (omega arith), (stands v k b).0, (stands v k b).1) refl)
      ∙ sym (gain_levels (q v) (s.links r (u / 4) v)));
}

-- each of the four standings of a world makes true what the world does
pub fourfold_truth : (s : Structure) (φ : Formula) (w k : ℕ) → w < s.worlds → k < 4 → plain_truth (fourfold s) φ (4 * w + k) ≡ truth s φ w
unfolding fourfold
fourfold_truth s φ w k h b = shown_truth (shows_fourfold s) φ (4 * w + k) (omega arith) ∙ ap (truth s φ) (stands w k b).0

-- a formula is satisfiable exactly when it is so without copies
pub satisfiable_plain : (φ : Formula) → Satisfiable φ ↔ PlainSatisfiable φ
unfolding single fourfold
satisfiable_plain φ = (
  λ sat. record {
    structure = fourfold sat.structure;
    world = 4 * sat.world + 0;
    inside = omega (arith, sat.inside);
    holds = fourfold_truth sat.structure φ sat.world 0 sat.inside (omega arith) ∙ sat.holds;
  },
  λ sat. record {
    structure = single sat.structure;
    world = sat.world;
    inside = sat.inside;
    holds = single_truth sat.structure φ sat.world sat.inside ∙ sat.holds;
  },
)
