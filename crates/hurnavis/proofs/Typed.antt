-- Document 02, P1: typed answers. Each theorem speaks of any answer that keeps the promise of the call.
use mathlib.Core.Path.{◌≡◌, refl, sym, ap, ◌∙◌}
use mathlib.Core.Logic.{◌↔◌, inl, inr}
use mathlib.Core.Bool.{Bool, true, false}
use mathlib.Core.List.{List}
use Prim.Native.Nat.{ℕ, ◌+◌, ◌*◌, ◌<◌, ◌≤◌}
use native.Mathlib.Omega.{arith}
use lib.Dec.{ltb}
use lib.ListN.{length, take, drop, length-drop}
use lib.Seq.{length-take-le, get_or-take, get_or-drop, ext_get_or}
use borrow.Author.Tests.{ltb-true, ltb-false, lt-ltb}
use Rattle.faults.specs.declared.Fault.{Fault}
use Rattle.faults.specs.declared.Fault.TheVariants.{Space, TextLimit}
use Rattle.faults.specs.Verdict.{accepted, number_of, refusal, refuse_if, and_then}
use Rattle.faults.proofs.Numbers.{no_fault}
use Rattle.packed.proofs.Bytes.{same_bytes}
use Rattle.table.specs.Entry.{entry_of, entry_in, word_in}
use Rattle.table.specs.Formulas.{formula_at}
use Rattle.table.specs.Check.{table_verdict}
use Rattle.postorder.specs.Order.{inner, size, Ordered}
use Rattle.postorder.proofs.Meaning.{ordered_means, ordered_ext, ordered_accepted}
use Rattle.grammar.specs.Tree.{Tree, formula}
use Rattle.grammar.specs.Fits.{Fits}
use Rattle.grammar.proofs.Unique.{one_tree_fits}
use Rattle.typed.specs.Written.{over_limit}
use Rattle.typed.specs.Reading.{NoTree, tree_verdict, RefusedFor, ReadingIs}
use Rattle.typed.proofs.Progress.{within}
use Rattle.hurnavis.proofs.Demands.{Refuses, first_fault}
use Rattle.std.specs.Prelude.{Result, Ok, Err}

-- a tree is refused for 12 or 10, and for nothing else
never_11 : (over short : Bool) → refusal (and_then (refuse_if over TextLimit) (refuse_if short Space)) ≡ 11 → ⊥
never_11 true short is = omega (arith, is)
never_11 false true is = omega (arith, is)
never_11 false false is = omega (arith, is)

verdict_12 : (over short : Bool) → (refusal (and_then (refuse_if over TextLimit) (refuse_if short Space)) ≡ 12) ↔ (over ≡ true)
verdict_12 true short = (λ is. refl, λ is. refl)
verdict_12 false true = (λ is. absurd (omega (arith, is)), λ is. let z : ◌≡◌ {A = ℕ} 0 1 = cc in absurd (omega arith))
verdict_12 false false = (λ is. absurd (omega (arith, is)), λ is. let z : ◌≡◌ {A = ℕ} 0 1 = cc in absurd (omega arith))

verdict_10 : (over short : Bool) → (refusal (and_then (refuse_if over TextLimit) (refuse_if short Space)) ≡ 10) ↔ ((over ≡ false) × (short ≡ true))
verdict_10 true short = (λ is. absurd (omega (arith, is)), λ is. let e = is.0 in let z : ◌≡◌ {A = ℕ} 0 1 = cc in absurd (omega arith))
verdict_10 false true = (λ is. (refl, refl), λ is. refl)
verdict_10 false false = (λ is. absurd (omega (arith, is)), λ is. let e = is.1 in let z : ◌≡◌ {A = ℕ} 0 1 = cc in absurd (omega arith))

abbrev short : List ℕ → Tree → Bool
short before t = ltb (length before) (4 * size (formula t))

module _ (text before after : List ℕ) where
  refused_tree : (f : Fault) → RefusedFor text (length before) f → (t : Tree) → Fits text t → tree_verdict text t (length before) ≡ Err f
  refused_tree f (inl none) t fits = absurd (none.1 t fits)
  refused_tree f (inr (s, fits-s, verdict)) t fits = rw (one_tree_fits text t s fits fits-s) verdict

  -- the number is that of the tree's verdict, or 11 where there is no tree
  with_tree : (r : Result ℕ Fault) → ReadingIs text before after r → (t : Tree) → Fits text t → refusal r ≡ refusal (tree_verdict text t (length before))
  with_tree (Ok n) is t fits =
      let accepted : tree_verdict text t (length before) ≡ accepted = rw (one_tree_fits text t is.0 fits is.1) is.2 in
      sym (ap refusal accepted)
  with_tree (Err f) is t fits = sym (ap refusal (refused_tree f is.0 t fits))

  no_tree : (r : Result ℕ Fault) → ReadingIs text before after r → NoTree text → refusal r ≡ 11
  no_tree (Ok n) is none = absurd (none is.0 is.1)
  no_tree (Err f) (inl outside, kept) none = ap number_of outside.0
  no_tree (Err f) (inr found, kept) none = absurd (none found.0 found.1)

  some_tree : (r : Result ℕ Fault) → ReadingIs text before after r → (refusal r ≡ 11 → ⊥) → (t : Tree) × Fits text t
  some_tree (Ok n) is other = (is.0, is.1)
  some_tree (Err f) (inl outside, kept) other = absurd (other (ap number_of outside.0))
  some_tree (Err f) (inr found, kept) other = (found.0, found.1)

  keeps : (r : Result ℕ Fault) → ReadingIs text before after r → (f : Fault) → refusal r ≡ number_of f → after ≡ before
  keeps (Ok n) is f refused = absurd (no_fault f (sym refused))
  keeps (Err g) is f refused = is.1

  module _ (r : Result ℕ Fault) (is : ReadingIs text before after r) where
    -- 11 exactly when no tree fits the text
    pub text_11 : (refusal r ≡ 11) ↔ NoTree text
    text_11 = (λ number t fits. never_11 (over_limit text t) (short before t) (sym (with_tree r is t fits) ∙ number), no_tree r is)

    -- of a text with a tree, the number is that of the first of 12 and 10, and 0 exactly where there is no fault
    pub text_refused : (t : Tree) → Fits text t → Refuses (tree_verdict text t (length before)) (refusal r)
    text_refused t fits = rw (with_tree r is t fits) (first_fault _)

    -- 12 exactly when a tree fits, and the text is over 1,024 bytes, has a number over 255 or makes over 64 entries
    pub text_12 : (refusal r ≡ 12) ↔ ((t : Tree) × Fits text t × (over_limit text t ≡ true))
    text_12 = (
      λ number.
          let found = some_tree r is (λ other. omega (arith, number, other)) in
          (found.0, found.1, (verdict_12 (over_limit text found.0) (short before found.0)).0 (sym (with_tree r is found.0 found.1) ∙ number)),
      λ found. with_tree r is found.0 found.1 ∙ (verdict_12 (over_limit text found.0) (short before found.0)).1 found.2,
    )

    -- 10 exactly when a tree fits within the limits, and the lent bytes are fewer than 4 for each entry
    pub text_10 : (refusal r ≡ 10) ↔ ((t : Tree) × Fits text t × (over_limit text t ≡ false) × (length before < 4 * size (formula t)))
    text_10 = (
      λ number.
          let found = some_tree r is (λ other. omega (arith, number, other)) in
          let both = (verdict_10 (over_limit text found.0) (short before found.0)).0 (sym (with_tree r is found.0 found.1) ∙ number) in
          (found.0, found.1, both.0, ltb-true _ _ both.1),
      λ found. with_tree r is found.0 found.1 ∙ (verdict_10 (over_limit text found.0) (short before found.0)).1 (found.2, lt-ltb _ _ found.3),
    )

    -- a refused call leaves the lent bytes as they were
    pub text_keeps : (f : Fault) → refusal r ≡ number_of f → after ≡ before
    text_keeps = keeps r is

-- What the table of a text means. Its first n entries are a table that is accepted, and the last of them means the tree's formula.
pub record Means (t : Tree) (n : ℕ) (before after : List ℕ) : Type 0 where
  pub count : n ≡ size (formula t)
  pub accepted : table_verdict (take (4 * n) after) ≡ accepted
  pub last : (i : ℕ) → n ≡ i + 1 → formula_at (entry_in (take (4 * n) after)) i ≡ formula t
  pub behind : drop (4 * n) after ≡ drop (4 * n) before

-- an accepted tree is within the limits, and there are bytes enough
accepts : (over few : Bool) → and_then (refuse_if over TextLimit) (refuse_if few Space) ≡ accepted → (over ≡ false) × (few ≡ false)
accepts true few ok = let z : ◌≡◌ {A = ℕ} 0 1 = cc in absurd (omega arith)
accepts false true ok = let z : ◌≡◌ {A = ℕ} 0 1 = cc in absurd (omega arith)
accepts false false ok = (refl, refl)

-- the first n entries are those of the first 4n bytes
front : (bytes : List ℕ) (n j : ℕ) → j < n → entry_in bytes j ≡ entry_in (take (4 * n) bytes) j
unfolding word_in
front bytes n j inside =
    ap entry_of (same_bytes bytes (take (4 * n) bytes) (4 * j) 4 (λ k low high. sym (get_or-take (4 * n) bytes k 0 (omega arith))))

module _ (text before after : List ℕ) (n : ℕ) (is : ReadingIs text before after (Ok n)) where
  first_bytes : length (take (4 * n) after) ≡ 4 * n
  first_bytes =
      let enough = ltb-false (length before) (4 * size (formula is.0)) (accepts (over_limit text is.0) (short before is.0) is.2).1 in
      length-take-le (4 * n) after (omega (arith, enough, is.3, is.4.as_long))

  in_order : Ordered (entry_in (take (4 * n) after)) 0 (formula is.0)
  in_order =
      ordered_ext (entry_in after) (entry_in (take (4 * n) after)) 0 (formula is.0) (λ j low high. front after n j (omega (arith, is.3))) is.4.entries

  pub few_entries : n ≤ 64
  few_entries = omega (arith, (within text is.0 (accepts (over_limit text is.0) (short before is.0) is.2).0).few, is.3)

  -- the table of a text means what the grammar reads
  pub text_means : (t : Tree) → Fits text t → Means t n before after
  text_means t fits =
      rw (one_tree_fits text t is.0 fits is.1)
      (record {
        count = is.3;
        accepted =
            ordered_accepted (take (4 * n) after) (formula is.0) (first_bytes ∙ ap (λ (m : ℕ). 4 * m) is.3)
            (omega (arith, few_entries, is.3)) in_order;
        last =
            λ i last.
            let at : 0 + inner (formula is.0) ≡ i = omega (arith, is.3) in
            ap (formula_at (entry_in (take (4 * n) after))) (sym at) ∙ ordered_means (entry_in (take (4 * n) after)) 0 (formula is.0) in_order;
        behind =
            ext_get_or 0 (drop (4 * n) after) (drop (4 * n) before) (simp (length-drop, is.4.as_long) refl)
            (λ i inside.
            get_or-drop (4 * n) after i 0 ∙ is.4.behind (4 * n + i) (omega (arith, is.3)) ∙ sym (get_or-drop (4 * n) before i 0));
      })
