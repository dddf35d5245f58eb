-- What the truth of an entry says of its parts, kind by kind: what a wanted entry makes wanted besides, and what can't be wanted.
-- Why: the truth of an entry is its kind's row of document 01's table, in terms of the truth of its parts.
use mathlib.Core.Path.{◌≡◌, sym, ap, ◌∙◌}
use mathlib.Core.Logic.{◌⊎◌}
use mathlib.Core.Bool.{Bool, true, false, cond, not, not-not, true≢false, false≢true}
use Prim.Native.Nat.{ℕ, ◌<◌}
use native.Mathlib.Omega.{arith}
use borrow.Author.Tests.{leb-false}
use Rattle.semantics.specs.Structure.{Structure}
use Rattle.semantics.specs.Truth.{truth}
use Rattle.table.specs.declared.entry.Entry.{Entry}
use Rattle.table.specs.Formulas.{formula_at}
use Rattle.table.proofs.Formulas.{truth_of}
use Rattle.table.specs.Formed.{WellFormed}
use Rattle.table.proofs.Accepted.{truth_rule}
use Rattle.tableau.specs.Wants.{truth_at}
use Rattle.sets.proofs.Tests.{both_parts, either_parts}

-- an entry's fields, with the kind k
abbrev pub of_kind : ℕ → Entry → Entry
of_kind k e = record { kind = k; name = e.name; first = e.first; second = e.second; grade = e.grade }

module _ {entry : ℕ → Entry} {n : ℕ} (wf : WellFormed entry n) (s : Structure) (w : ℕ) {i : ℕ} (inside : i < n) where
  pub truth_of_kind : (k : ℕ) → (entry i).kind ≡ k → truth_at entry s w i ≡ truth_of s w (λ j. truth s (formula_at entry j)) (of_kind k (entry i))
  truth_of_kind k e = rw e at (truth_rule wf s w i inside)

  -- true is never false, and false is never true
  pub constant_rule : (b : Bool) → (entry i).kind ≡ cond b 1 0 → truth_at entry s w i ≡ b → ⊥
  constant_rule true k t = false≢true (sym (truth_of_kind 1 k) ∙ t)
  constant_rule false k t = true≢false (sym (truth_of_kind 0 k) ∙ t)

  pub not_rule : (b : Bool) → (entry i).kind ≡ 3 → truth_at entry s w i ≡ b → truth_at entry s w (entry i).first ≡ not b
  not_rule b k t = sym (not-not _) ∙ ap not (sym (truth_of_kind 3 k) ∙ t)

  -- a true and, a false or
  pub both_rule : (b : Bool) → (entry i).kind ≡ cond b 4 5 → truth_at entry s w i ≡ b
      → (truth_at entry s w (entry i).first ≡ b) × (truth_at entry s w (entry i).second ≡ b)
  both_rule true k t = both_parts true _ _ (sym (truth_of_kind 4 k) ∙ t)
  both_rule false k t = both_parts false _ _ (sym (truth_of_kind 5 k) ∙ t)

  -- a true or, a false and
  pub either_rule : (b : Bool) → (entry i).kind ≡ cond b 5 4 → truth_at entry s w i ≡ b
      → (truth_at entry s w (entry i).first ≡ b) ⊎ ((truth_at entry s w (entry i).first ≡ not b) × (truth_at entry s w (entry i).second ≡ b))
  either_rule true k t = either_parts true _ _ (sym (truth_of_kind 5 k) ∙ t)
  either_rule false k t = either_parts false _ _ (sym (truth_of_kind 4 k) ∙ t)

  -- at least 0 is never false
  pub zero_rule : (entry i).kind ≡ 6 → (entry i).grade ≡ 0 → truth_at entry s w i ≡ false → ⊥
  zero_rule k g t = omega (arith, leb-false (entry i).grade _ (sym (truth_of_kind 6 k) ∙ t))

-- two entries with the same fact
pub fact_rule : {entry : ℕ → Entry} {n : ℕ} → WellFormed entry n → (s : Structure) (w : ℕ) {i j : ℕ} → i < n → j < n
    → (entry i).kind ≡ 2 → (entry j).kind ≡ 2 → (entry i).name ≡ (entry j).name → truth_at entry s w i ≡ truth_at entry s w j
fact_rule wf s w {i} {j} hi hj ki kj e =
    truth_of_kind wf s w hi 2 ki ∙ ap (λ (p : ℕ). s.holds p w) e ∙ sym (truth_of_kind wf s w hj 2 kj)
