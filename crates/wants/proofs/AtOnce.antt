-- What stands against an entry at once, kind by kind: a constant the wrong way, a fact that is wanted the other way, a least number of 0
-- that is not to be reached, and the entry itself wanted the other way.
use mathlib.Core.Path.{◌≡◌, refl, sym, ◌∙◌}
use mathlib.Core.Bool.{Bool, true, false, cond, not, ◌&&◌, ◌||◌, false≢true}
use Prim.Native.Nat.{ℕ}
use native.Mathlib.Omega.{arith}
use lib.Dec.{eqb}
use borrow.Author.Tests.{eqb-true, eq-eqb}
use Rattle.semantics.specs.Structure.{Structure}
use Rattle.table.specs.declared.entry.Entry.{Entry}
use Rattle.semantics.specs.Answer.{Answers}
use Rattle.tableau.specs.Wants.{truth_at}
use Rattle.sets.proofs.Tests.{both_parts}
use Rattle.tableau.proofs.Rules.{constant_rule, zero_rule, fact_rule}
use Rattle.wants.specs.declared.Wants.{Wants}
use Rattle.wants.specs.Outcome.{wanted_w, Refuted, Asked}
use Rattle.wants.specs.Step.{HasFact, Free, ClashIs}

not_both : (b : Bool) → b ≡ not b → ⊥
not_both true e = let z : ◌≡◌ {A = ℕ} 0 1 = cc in omega arith
not_both false e = let z : ◌≡◌ {A = ℕ} 0 1 = cc in omega arith

no_constant : (b : Bool) (k : ℕ) → (k ≡ 0 → ⊥) → (k ≡ 1 → ⊥) → k ≡ cond b 1 0 → ⊥
no_constant true k h0 h1 = h1
no_constant false k h0 h1 = h0

module _ {entry : ℕ → Entry} {n e : ℕ} {w : Wants} (asked : Asked entry n e w) where
  -- an entry that is true where e is, is wanted the other way
  opposed : (b : Bool) (j : ℕ) → wanted_w w (not b) j ≡ true → ((s : Structure) (v : ℕ) → truth_at entry s v e ≡ truth_at entry s v j) → Refuted entry b e w
  opposed b j other same s v meets t = not_both b (sym t ∙ same s v ∙ meets.as_wanted (not b) j other)

  pub itself_clash : (b : Bool) → wanted_w w (not b) e ≡ true → Refuted entry b e w
  itself_clash b other = opposed b e other (λ s v. refl)

  -- a constant is refuted one way, and free the other
  constant_refuted : (b : Bool) → (entry e).kind ≡ cond b 1 0 → Refuted entry b e w
  constant_refuted b k s v meets t = constant_rule asked.formed s v asked.inside b k t

  free : (b : Bool) → ((entry e).kind ≡ cond b 1 0 → ⊥) → ((entry e).kind ≡ 2 → ⊥) → ((entry e).kind ≡ 6 → b || not (eqb (entry e).grade 0) ≡ true) → Free entry b e w
  free b c f l = record { constant = c; fact = λ j p h. absurd (f h); least = l }

  pub true_clash : (b : Bool) → (entry e).kind ≡ 0 → ClashIs entry b e w (not b)
  true_clash true k = free true (omega arith) (omega arith) (λ h. absurd (omega arith))
  true_clash false k = constant_refuted false k

  pub false_clash : (b : Bool) → (entry e).kind ≡ 1 → ClashIs entry b e w b
  false_clash true k = constant_refuted true k
  false_clash false k = free false (omega arith) (omega arith) (λ h. absurd (omega arith))

  -- two entries with one fact, wanted the one way and the other
  pub fact_clash : (b : Bool) → (entry e).kind ≡ 2 → (r : Bool) → Answers r (HasFact entry (wanted_w w (not b)) (entry e).name) → ClashIs entry b e w r
  fact_clash b k true found =
      let j = found.at in
      let same = both_parts true (eqb (entry j).kind 2) _ found.fact in
      opposed b j found.inside (λ s v.
      fact_rule asked.formed s v asked.inside (asked.settled.below (not b) j found.inside) k
      (eqb-true _ _ same.0) (sym (eqb-true _ _ same.1)))
  fact_clash b k false none = record {
    constant = no_constant b _ (omega arith) (omega arith);
    fact = λ j p h kind same. none (record { at = j; inside = p; fact = rw (eq-eqb _ _ kind, eq-eqb _ _ (sym same)) });
    least = λ h. absurd (omega arith);
  }

  -- at least 0 is never false
  pub least_clash : (b r : Bool) → (entry e).kind ≡ 6 → not b && eqb (entry e).grade 0 ≡ r → ClashIs entry b e w r
  least_clash true true k g = absurd (false≢true g)
  least_clash true false k g = free true (omega arith) (omega arith) (λ h. refl)
  least_clash false true k g = λ s v meets. zero_rule asked.formed s v asked.inside k (eqb-true _ _ g)
  least_clash false false k g = free false (omega arith) (omega arith) (λ h. rw g)

  pub no_clash : (b : Bool) → ((entry e).kind ≡ 0 → ⊥) → ((entry e).kind ≡ 1 → ⊥) → ((entry e).kind ≡ 2 → ⊥) → ((entry e).kind ≡ 6 → ⊥) → Free entry b e w
  no_clash b h0 h1 h2 h6 = free b (no_constant b _ h0 h1) h2 (λ h. absurd (h6 h))
