-- Where every rule has been applied, a world is as wanted if it is so of the facts, of the counting entries and of what is pending
-- (the induction in what is known as Hintikka's lemma).
-- Why: the truth of any other entry follows from that of its parts, which are wanted by its rule and have smaller numbers.
use mathlib.Core.Path.{◌≡◌, refl, sym, ap, ◌∙◌}
use mathlib.Core.Logic.{⊎_elim, ⊎_map}
use mathlib.Core.Bool.{Bool, true, false, not, ◌&&◌, ◌||◌, not-not, false≢true}
use Prim.Native.Nat.{ℕ, zero, suc, ◌<◌}
use native.Mathlib.Nat.{not-suc-le-zero, lt-suc_self}
use native.Mathlib.Omega.{arith}
use borrow.Author.Tests.{not-true}
use Rattle.semantics.specs.Structure.{Structure}
use Rattle.semantics.specs.Truth.{truth}
use Rattle.table.specs.declared.entry.Entry.{Entry}
use Rattle.table.specs.Formulas.{formula_at}
use Rattle.table.specs.Check.{uses_of}
use Rattle.table.proofs.Formulas.{truth_of}
use Rattle.table.specs.Formed.{Fitting, WellFormed}
use Rattle.table.proofs.Accepted.{truth_rule}
use Rattle.tableau.specs.Wants.{truth_at, wanted, rule, Meets, Settled}
use Rattle.sets.proofs.Tests.{both, either, both_made, either_made, both_parts, one_of}
use Rattle.tableau.proofs.Rules.{of_kind}

-- what no rule settles: facts, counting entries, and what is pending
pub data Elementary (pending : ℕ → Bool) (e : Entry) (i : ℕ) : Type 0 where
  is_fact : e.kind ≡ 2 → Elementary pending e i
  is_least : e.kind ≡ 6 → Elementary pending e i
  is_most : e.kind ≡ 7 → Elementary pending e i
  is_pending : pending i ≡ true → Elementary pending e i

-- a rule that is met makes its entry as wanted, if smaller entries are
module _ (entry : ℕ → Entry) (yes no pending : ℕ → Bool) (s : Structure) (w : ℕ) (e : Entry) (i : ℕ)
    (parts : (b : Bool) (j : ℕ) → j < i → wanted yes no b j ≡ true → truth_at entry s w j ≡ b) where
  by_both : (b : Bool) → e.first < i → e.second < i → wanted yes no b e.first && wanted yes no b e.second ≡ true
      → both b (truth_at entry s w e.first) (truth_at entry s w e.second) ≡ b
  by_both b f g r =
      let (p, q) = both_parts true (wanted yes no b e.first) (wanted yes no b e.second) r in
      both_made b (parts b e.first f p) (parts b e.second g q)

  by_either : (b : Bool) → e.first < i → e.second < i
      → (pending i ≡ true → either b (truth_at entry s w e.first) (truth_at entry s w e.second) ≡ b)
      → pending i || (wanted yes no b e.first || wanted yes no b e.second) ≡ true
      → either b (truth_at entry s w e.first) (truth_at entry s w e.second) ≡ b
  by_either b f g given r =
      ⊎_elim given
      (λ (q : wanted yes no b e.first || wanted yes no b e.second ≡ true).
      either_made b (⊎_map (parts b e.first f) (parts b e.second g) (one_of (wanted yes no b e.first) _ q)))
      (one_of (pending i) _ r)

  by_rule : (k : ℕ) (b : Bool) → Fitting (of_kind k e) i → rule yes no pending b (of_kind k e) i ≡ true
      → (Elementary pending (of_kind k e) i → truth_of s w (λ j. truth s (formula_at entry j)) (of_kind k e) ≡ b)
      → truth_of s w (λ j. truth s (formula_at entry j)) (of_kind k e) ≡ b
  unfolding rule uses_of
  by_rule zero b fit r given = sym r
  by_rule (suc zero) b fit r given = sym (not-true b r)
  by_rule (suc (suc zero)) b fit r given = given (is_fact refl)
  by_rule (suc (suc (suc zero))) b fit r given = ap not (parts (not b) e.first (fit.first refl) r) ∙ not-not b
  by_rule (suc (suc (suc (suc zero)))) true fit r given = by_both true (fit.first refl) (fit.second refl) r
  by_rule (suc (suc (suc (suc zero)))) false fit r given = by_either false (fit.first refl) (fit.second refl) (λ p. given (is_pending p)) r
  by_rule (suc (suc (suc (suc (suc zero))))) true fit r given = by_either true (fit.first refl) (fit.second refl) (λ p. given (is_pending p)) r
  by_rule (suc (suc (suc (suc (suc zero))))) false fit r given = by_both false (fit.first refl) (fit.second refl) r
  by_rule (suc (suc (suc (suc (suc (suc zero)))))) b fit r given = given (is_least refl)
  by_rule (suc (suc (suc (suc (suc (suc (suc zero))))))) b fit r given = given (is_most refl)
  by_rule (suc (suc (suc (suc (suc (suc (suc (suc k)))))))) b fit r given = absurd (false≢true r)

module _ {entry : ℕ → Entry} {n : ℕ} (wf : WellFormed entry n) {yes no pending : ℕ → Bool} (settled : Settled entry n yes no pending)
    (s : Structure) (w : ℕ) (given : (b : Bool) (i : ℕ) → wanted yes no b i ≡ true → Elementary pending (entry i) i → truth_at entry s w i ≡ b) where
  as_wanted_below : (m : ℕ) (b : Bool) (i : ℕ) → i < m → wanted yes no b i ≡ true → truth_at entry s w i ≡ b
  as_wanted_below zero b i h want = absurd (not-suc-le-zero h)
  as_wanted_below (suc m) b i h want =
      let inside = settled.below b i want in
      let known = truth_rule wf s w i inside in
      known
      ∙ by_rule entry yes no pending s w (entry i) i (λ c j l. as_wanted_below m c j (omega arith))
      (entry i).kind b (wf i inside) (settled.treated b i want) (λ e. sym known ∙ given b i want e)

  pub closure : Meets entry s w yes no
  closure = record { as_wanted = λ b i. as_wanted_below (suc i) b i (lt-suc_self i) }
