-- What the order gives: entries elsewhere have no influence on it, the last entry means the formula, and such a table is accepted.
use mathlib.Core.Path.{◌≡◌, refl, sym, ap, ap₂, ◌∙◌}
use mathlib.Core.List.{List}
use Prim.Native.Nat.{ℕ, suc, ◌+◌, ◌*◌, ◌<◌, ◌≤◌}
use native.Mathlib.Omega.{arith}
use lib.ListN.{length}
use borrow.Author.Tests.{lt-leb}
use Rattle.faults.specs.Verdict.{Verdict, accepted, each}
use Rattle.semantics.specs.Formula.{Formula, verum, falsum, fact, neg, conj, disj, at_least, at_most}
use Rattle.table.specs.declared.entry.Entry.{Entry}
use Rattle.table.specs.Entry.{entry_in}
use Rattle.table.specs.Check.{uses_of, entry_verdict, entries_verdict, table_verdict}
use Rattle.table.specs.Formulas.{kinds, formula_of, formula_at}
use Rattle.table.proofs.Accepted.{entries_accepted}
use Rattle.table.proofs.Formulas.{earlier, formula_at_earlier, earlier_below}
use Rattle.postorder.specs.Order.{inner, size, plain, named, negated, joining, counting, Ordered}

-- what stands elsewhere has no influence
pub ordered_ext : (entry entry' : ℕ → Entry) (b : ℕ) (φ : Formula) → ((j : ℕ) → b ≤ j → j < b + size φ → entry j ≡ entry' j)
    → Ordered entry b φ → Ordered entry' b φ
unfolding Ordered inner
ordered_ext entry entry' b verum same o = sym (same b (omega arith) (omega arith)) ∙ o
ordered_ext entry entry' b falsum same o = sym (same b (omega arith) (omega arith)) ∙ o
ordered_ext entry entry' b (fact p) same o = sym (same b (omega arith) (omega arith)) ∙ o
ordered_ext entry entry' b (neg φ) same o =
    (ordered_ext entry entry' b φ (λ j l h. same j l (omega arith)) o.0, sym (same (b + size φ) (omega arith) (omega arith)) ∙ o.1)
ordered_ext entry entry' b (conj φ ψ) same o = (
  ordered_ext entry entry' b φ (λ j l h. same j l (omega arith)) o.0,
  ordered_ext entry entry' (b + size φ) ψ (λ j l h. same j (omega arith) (omega arith)) o.1,
  sym (same (b + size φ + size ψ) (omega arith) (omega arith)) ∙ o.2,
)
ordered_ext entry entry' b (disj φ ψ) same o = (
  ordered_ext entry entry' b φ (λ j l h. same j l (omega arith)) o.0,
  ordered_ext entry entry' (b + size φ) ψ (λ j l h. same j (omega arith) (omega arith)) o.1,
  sym (same (b + size φ + size ψ) (omega arith) (omega arith)) ∙ o.2,
)
ordered_ext entry entry' b (at_least n r φ) same o =
    (ordered_ext entry entry' b φ (λ j l h. same j l (omega arith)) o.0, sym (same (b + size φ) (omega arith) (omega arith)) ∙ o.1)
ordered_ext entry entry' b (at_most n r φ) same o =
    (ordered_ext entry entry' b φ (λ j l h. same j l (omega arith)) o.0, sym (same (b + size φ) (omega arith) (omega arith)) ∙ o.1)

module _ (entry : ℕ → Entry) where
  -- the formula of an entry whose fields are known
  at_entry : (i : ℕ) (e : Entry) {j : ℕ} → j ≡ i → entry i ≡ e → formula_at entry j ≡ formula_of (earlier entry i) e
  at_entry i e here known = ap (formula_at entry) here ∙ formula_at_earlier entry i ∙ ap (formula_of (earlier entry i)) known

  -- an operand that comes before an entry is what the entry's reference to its last entry reads as
  operand : (i j : ℕ) {φ : Formula} → j < i → formula_at entry j ≡ φ → earlier entry i j ≡ φ
  operand i j before means = earlier_below entry i j before ∙ means

  -- the last of a formula's entries means it
  pub ordered_means : (b : ℕ) (φ : Formula) → Ordered entry b φ → formula_at entry (b + inner φ) ≡ φ
  unfolding Ordered inner formula_of kinds
  ordered_means b verum o = at_entry b (plain 0) (omega arith) o
  ordered_means b falsum o = at_entry b (plain 1) (omega arith) o
  ordered_means b (fact p) o = at_entry b (named p) (omega arith) o
  ordered_means b (neg φ) o =
      at_entry (b + size φ) _ refl o.1
      ∙ ap neg (operand (b + size φ) (b + inner φ) (omega arith) (ordered_means b φ o.0))
  ordered_means b (conj φ ψ) o =
      at_entry (b + size φ + size ψ) _ (omega arith) o.2
      ∙ ap₂ conj
      (operand (b + size φ + size ψ) (b + inner φ) (omega arith) (ordered_means b φ o.0))
      (operand (b + size φ + size ψ) (b + size φ + inner ψ) (omega arith) (ordered_means (b + size φ) ψ o.1))
  ordered_means b (disj φ ψ) o =
      at_entry (b + size φ + size ψ) _ (omega arith) o.2
      ∙ ap₂ disj
      (operand (b + size φ + size ψ) (b + inner φ) (omega arith) (ordered_means b φ o.0))
      (operand (b + size φ + size ψ) (b + size φ + inner ψ) (omega arith) (ordered_means (b + size φ) ψ o.1))
  ordered_means b (at_least n r φ) o =
      at_entry (b + size φ) _ refl o.1
      ∙ ap (at_least n r) (operand (b + size φ) (b + inner φ) (omega arith) (ordered_means b φ o.0))
  ordered_means b (at_most n r φ) o =
      at_entry (b + size φ) _ refl o.1
      ∙ ap (at_most n r) (operand (b + size φ) (b + inner φ) (omega arith) (ordered_means b φ o.0))

-- where the references of an entry are smaller than its number it has no fault, as the fields that its kind does not use are 0
module _ (i j : ℕ) (h : j < i) where
  fine_negated : entry_verdict (negated j) i ≡ accepted
  unfolding uses_of
  fine_negated = rw (lt-leb i j h) refl

  fine_least : (n r : ℕ) → entry_verdict (counting 6 n r j) i ≡ accepted
  unfolding uses_of
  fine_least n r = rw (lt-leb i j h) refl

  fine_most : (n r : ℕ) → entry_verdict (counting 7 n r j) i ≡ accepted
  unfolding uses_of
  fine_most n r = rw (lt-leb i j h) refl

  module _ (k : ℕ) (l : k < i) where
    fine_conj : entry_verdict (joining 4 j k) i ≡ accepted
    unfolding uses_of
    fine_conj = rw (lt-leb i j h, lt-leb i k l) refl

    fine_disj : entry_verdict (joining 5 j k) i ≡ accepted
    unfolding uses_of
    fine_disj = rw (lt-leb i j h, lt-leb i k l) refl

-- one more check that accepts
more : (v : ℕ → Verdict) (i : ℕ) {n : ℕ} → n ≡ suc i → each v i ≡ accepted → v i ≡ accepted → each v n ≡ accepted
unfolding each
more v i next before here = rw (next, before, here) refl

module _ (entry : ℕ → Entry) where
  one_entry : (i : ℕ) (e : Entry) {n : ℕ} → n ≡ suc i → entries_verdict entry i ≡ accepted → entry i ≡ e → entry_verdict e i ≡ accepted
      → entries_verdict entry n ≡ accepted
  one_entry i e next before known fine = more _ i next before (ap (λ (e : Entry). entry_verdict e i) known ∙ fine)

  -- where the entries before a formula's are accepted, so are those up to its own
  ordered_entries : (b : ℕ) (φ : Formula) → Ordered entry b φ → entries_verdict entry b ≡ accepted → entries_verdict entry (b + size φ) ≡ accepted
  unfolding Ordered inner uses_of
  ordered_entries b verum o before = one_entry b (plain 0) (omega arith) before o refl
  ordered_entries b falsum o before = one_entry b (plain 1) (omega arith) before o refl
  ordered_entries b (fact p) o before = one_entry b (named p) (omega arith) before o refl
  ordered_entries b (neg φ) o before =
      one_entry (b + size φ) _ (omega arith) (ordered_entries b φ o.0 before) o.1
      (fine_negated (b + size φ) (b + inner φ) (omega arith))
  ordered_entries b (conj φ ψ) o before =
      one_entry (b + size φ + size ψ) _ (omega arith) (ordered_entries (b + size φ) ψ o.1 (ordered_entries b φ o.0 before)) o.2
      (fine_conj (b + size φ + size ψ) (b + inner φ) (omega arith) (b + size φ + inner ψ) (omega arith))
  ordered_entries b (disj φ ψ) o before =
      one_entry (b + size φ + size ψ) _ (omega arith) (ordered_entries (b + size φ) ψ o.1 (ordered_entries b φ o.0 before)) o.2
      (fine_disj (b + size φ + size ψ) (b + inner φ) (omega arith) (b + size φ + inner ψ) (omega arith))
  ordered_entries b (at_least n r φ) o before =
      one_entry (b + size φ) _ (omega arith) (ordered_entries b φ o.0 before) o.1
      (fine_least (b + size φ) (b + inner φ) (omega arith) n r)
  ordered_entries b (at_most n r φ) o before =
      one_entry (b + size φ) _ (omega arith) (ordered_entries b φ o.0 before) o.1
      (fine_most (b + size φ) (b + inner φ) (omega arith) n r)

-- a table with just the entries of a formula is accepted, if they are not too many
pub ordered_accepted : (bytes : List ℕ) (φ : Formula) → length bytes ≡ 4 * size φ → size φ ≤ 64 → Ordered (entry_in bytes) 0 φ
    → table_verdict bytes ≡ accepted
unfolding each
ordered_accepted bytes φ long few o =
    entries_accepted bytes (0 + size φ) (omega arith) (omega arith) (omega arith) (ordered_entries (entry_in bytes) 0 φ o refl)
