-- What an accepted table is known to meet: it has 64 entries at most, the kinds are known, and used references are smaller
-- than their entry's number.
-- So the formula of an entry, and its truth, are those of document 01's table of kinds with the entries that it refers to.
use mathlib.Core.Path.{◌≡◌, refl, ap, ap₂, ◌∙◌}
use mathlib.Core.Bool.{Bool, true, false, not, ◌&&◌, ◌||◌}
use mathlib.Core.List.{List}
use Prim.Native.Nat.{ℕ, ◌*◌, ◌/◌, ◌%◌, ◌<◌, ◌≤◌}
use native.Mathlib.Omega.{arith}
use lib.Dec.{eqb, leb, ltb}
use lib.ListN.{length, get_or}
use borrow.Author.Tests.{leb-false, ltb-false, le-ltb, eq-eqb, ne_eqb}
use Rattle.semantics.specs.Formula.{Formula, depth, falsum, neg, conj, disj, at_least, at_most}
use Rattle.semantics.specs.Structure.{Structure}
use Rattle.semantics.specs.Truth.{truth}
use Rattle.faults.specs.declared.Fault.TheVariants.{TableLength, Kind, UnusedField, Reference}
use Rattle.faults.specs.Verdict.{accepted, refuse_if}
use Rattle.faults.proofs.Each.{not_refused, neither, both_accepted, each_accepted}
use Rattle.table.specs.declared.entry.Entry.{Entry}
use Rattle.table.specs.Entry.{entry_in, size}
use Rattle.table.specs.Formulas.{kinds, formula_of, formula_at, depth_at, depth_of}
use Rattle.table.specs.Check.{uses_of, has_stray, refers_upward, entry_verdict, entries_verdict, length_faulty, table_verdict}
use Rattle.table.proofs.Cases.{by_kind}
use Rattle.table.proofs.Formulas.{earlier, earlier_below, formula_at_earlier, truth_of, truth_formula_of, depth_formula_of}
use Rattle.table.specs.Formed.{Fitting, WellFormed}

below_if_used : (used : Bool) (i j : ℕ) → used && leb i j ≡ false → used ≡ true → j < i
below_if_used true i j e u = leb-false i j e
below_if_used false i j e u = let z : ◌≡◌ {A = ℕ} 0 1 = cc in absurd (omega arith)

-- a formula reads only the references that its kind uses
kinds_ext : (ref ref' : ℕ → Formula) (e : Entry) (k : ℕ) → ((uses_of k).first ≡ true → ref e.first ≡ ref' e.first)
    → ((uses_of k).second ≡ true → ref e.second ≡ ref' e.second) → get_or (kinds ref e) k falsum ≡ get_or (kinds ref' e) k falsum
unfolding kinds uses_of
kinds_ext ref ref' e =
    by_kind
    (λ k. ((uses_of k).first ≡ true → ref e.first ≡ ref' e.first) → ((uses_of k).second ≡ true → ref e.second ≡ ref' e.second)
    → get_or (kinds ref e) k falsum ≡ get_or (kinds ref' e) k falsum)
    (λ p q. refl)
    (λ p q. refl)
    (λ p q. refl)
    (λ p q. ap neg (p refl))
    (λ p q. ap₂ conj (p refl) (q refl))
    (λ p q. ap₂ disj (p refl) (q refl))
    (λ p q. ap (at_least e.grade e.name) (p refl))
    (λ p q. ap (at_most e.grade e.name) (p refl))
    (λ k p q. refl)

module _ {entry : ℕ → Entry} {n : ℕ} (wf : WellFormed entry n) where
  -- the formula of an entry, from those of the entries that it refers to
  pub formula_rule : (i : ℕ) → i < n → formula_at entry i ≡ formula_of (formula_at entry) (entry i)
  unfolding formula_of
  formula_rule i h =
      formula_at_earlier entry i
      ∙ kinds_ext (earlier entry i) (formula_at entry) (entry i) (entry i).kind
      (λ u. earlier_below entry i (entry i).first ((wf i h).first u))
      (λ u. earlier_below entry i (entry i).second ((wf i h).second u))

  -- the depth of an entry, from those of the entries that it refers to
  pub depth_rule : (i : ℕ) → i < n → depth_at entry i ≡ depth_of (depth_at entry (entry i).first) (depth_at entry (entry i).second) (entry i).kind
  depth_rule i h = ap depth (formula_rule i h) ∙ depth_formula_of (formula_at entry) (entry i)

  -- the truth of an entry, from that of the entries that it refers to
  pub truth_rule : (s : Structure) (w i : ℕ) → i < n
      → truth s (formula_at entry i) w ≡ truth_of s w (λ j. truth s (formula_at entry j)) (entry i)
  truth_rule s w i h = ap (λ (φ : Formula). truth s φ w) (formula_rule i h) ∙ truth_formula_of s w (formula_at entry) (entry i)

entry_accepted : (e : Entry) (i : ℕ) → entry_verdict e i ≡ accepted → Fitting e i
entry_accepted e i ok =
    let known = both_accepted (refuse_if (leb 8 e.kind) Kind) _ ok in
    let plain = both_accepted (refuse_if (has_stray e) UnusedField) _ known.1 in
    let down = neither ((uses_of e.kind).first && leb i e.first) _ (not_refused (refers_upward e i) Reference plain.1) in
    record {
      kind = leb-false 8 e.kind (not_refused (leb 8 e.kind) Kind known.0);
      first = below_if_used (uses_of e.kind).first i e.first down.0;
      second = below_if_used (uses_of e.kind).second i e.second down.1;
    }

module _ (bytes : List ℕ) (ok : table_verdict bytes ≡ accepted) where
  -- an accepted table is well-formed
  pub accepted_formed : WellFormed (entry_in bytes) (size bytes)
  unfolding table_verdict
  accepted_formed i h =
      let entries = (both_accepted (refuse_if (length_faulty (length bytes)) TableLength) _ ok).1 in
      entry_accepted (entry_in bytes i) i (each_accepted _ (size bytes) entries i h)

  pub accepted_small : size bytes ≤ 64
  unfolding table_verdict
  accepted_small =
      let long = not_refused (length_faulty (length bytes)) TableLength (both_accepted (refuse_if (length_faulty (length bytes)) TableLength) _ ok).0 in
      let short = (neither (eqb (length bytes) 0) (ltb 256 (length bytes)) (neither (eqb (length bytes) 0 || ltb 256 (length bytes)) (not (eqb (length bytes % 4) 0)) long).0).1 in
      omega (arith, ltb-false 256 (length bytes) short)

-- a table is accepted if it has 1 to 64 entries, and each of them is
pub entries_accepted : (bytes : List ℕ) (n : ℕ) → length bytes ≡ 4 * n → 1 ≤ n → n ≤ 64 → entries_verdict (entry_in bytes) n ≡ accepted
    → table_verdict bytes ≡ accepted
unfolding table_verdict
entries_accepted bytes n long some few each-is =
    let not_empty : eqb (length bytes) 0 ≡ false = ne_eqb (length bytes) 0 (λ e. omega arith) in
    let not_many : ltb 256 (length bytes) ≡ false = le-ltb 256 (length bytes) (omega arith) in
    let whole : eqb (length bytes % 4) 0 ≡ true = eq-eqb (length bytes % 4) 0 (omega arith) in
    let all : length bytes / 4 ≡ n = omega arith in
    rw (not_empty, not_many, whole, all) each-is
