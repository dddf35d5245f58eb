-- A need or limit is as wanted exactly where the number of successors is within its bound.
-- Why: not at most n is at least n + 1, and not at least n is at most n - 1 where n is not 0.
use mathlib.Core.Path.{◌≡◌, sym, ◌∙◌}
use mathlib.Core.Logic.{⊎_elim}
use mathlib.Core.Bool.{Bool, true, false, ◌&&◌, or-true}
use Prim.Native.Nat.{ℕ, ◌-◌, ◌<◌, ◌≤◌}
use native.Mathlib.Omega.{arith}
use lib.Dec.{eqb}
use borrow.Author.Tests.{eqb-true, eq-eqb, eqb-false, leb-true, leb-false, le-leb, lt-leb, not-true}
use Rattle.semantics.specs.Structure.{Structure, successors}
use Rattle.semantics.specs.Truth.{truth}
use Rattle.table.specs.declared.entry.Entry.{Entry}
use Rattle.table.specs.Formed.{WellFormed}
use Rattle.tableau.specs.Wants.{truth_at, wanted, rule}
use Rattle.tableau.specs.Counting.{bound_kind, bound, speaks, lo, hi, part_of}
use Rattle.sets.proofs.Tests.{both_parts, both_made, one_of}
use Rattle.tableau.proofs.Rules.{truth_of_kind}

module _ (yes no : ℕ → Bool) (e : Entry) (i : ℕ) where
  pub bound_made : (b c : Bool) → wanted yes no b i ≡ true → e.kind ≡ bound_kind b c → bound yes no e i c ≡ true
  bound_made true c want k = rw (want, eq-eqb e.kind (bound_kind true c) k)
  bound_made false c want k = rw (want, eq-eqb e.kind (bound_kind false c) k, or-true)

  pub bound_cases : (c : Bool) → bound yes no e i c ≡ true → (b : Bool) × (wanted yes no b i ≡ true) × (e.kind ≡ bound_kind b c)
  bound_cases c h =
      ⊎_elim (λ (q : yes i && eqb e.kind (bound_kind true c) ≡ true). let (want, k) = both_parts true (yes i) _ q in (true, want, eqb-true _ _ k))
      (λ (q : no i && eqb e.kind (bound_kind false c) ≡ true). let (want, k) = both_parts true (no i) _ q in (false, want, eqb-true _ _ k))
      (one_of (yes i && eqb e.kind (bound_kind true c)) _ h)

  pub bound_speaks : (c : Bool) → bound yes no e i c ≡ true → {r : ℕ} → e.name ≡ r → speaks yes no e i r ≡ true
  bound_speaks true d {r} at = both_made true (eq-eqb e.name r at) (rw d)
  bound_speaks false d {r} at = both_made true (eq-eqb e.name r at) (rw (d, or-true))

-- so many successors are enough for a need, or few enough for a limit
abbrev pub Fits : (c : Bool) → Entry → ℕ → Type 0
Fits true e k = lo e ≤ k
Fits false e k = k ≤ hi e

module _ {entry : ℕ → Entry} {n : ℕ} (wf : WellFormed entry n) (s : Structure) (w : ℕ) {i : ℕ} (inside : i < n) where
  -- how many successors there are where the part holds
  abbrev reached : ℕ
  reached = successors s (entry i).name w (truth s (part_of entry i))

  pub fits : (b c : Bool) → (entry i).kind ≡ bound_kind b c → truth_at entry s w i ≡ b → Fits c (entry i) reached
  fits true true k t = rw k (leb-true _ _ (sym (truth_of_kind wf s w inside 6 k) ∙ t))
  fits true false k t = rw k (leb-true _ _ (sym (truth_of_kind wf s w inside 7 k) ∙ t))
  fits false true k t = rw k (leb-false _ _ (sym (truth_of_kind wf s w inside 7 k) ∙ t))
  fits false false k t = rw k (omega (arith, leb-false (entry i).grade reached (sym (truth_of_kind wf s w inside 6 k) ∙ t)))

  -- the rule says that the grade is not 0 where that matters
  module _ (yes no pending : ℕ → Bool) where
    pub fits_truth : (b c : Bool) → (entry i).kind ≡ bound_kind b c → rule yes no pending b (entry i) i ≡ true → Fits c (entry i) reached
        → truth_at entry s w i ≡ b
    unfolding rule
    fits_truth true true k r h = truth_of_kind wf s w inside 6 k ∙ le-leb _ _ (rw k at h)
    fits_truth true false k r h = truth_of_kind wf s w inside 7 k ∙ le-leb _ _ (rw k at h)
    fits_truth false true k r h = truth_of_kind wf s w inside 7 k ∙ lt-leb _ _ (rw k at h)
    fits_truth false false k r h =
        let positive = eqb-false (entry i).grade 0 (not-true _ (rw k at r)) in
        let few : reached ≤ (entry i).grade - 1 = rw k at h in
        truth_of_kind wf s w inside 6 k ∙ lt-leb (entry i).grade reached (omega arith)
