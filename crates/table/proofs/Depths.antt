-- Depths, entry by entry: where used references go down, entry i is at most i deep. An entry's depth follows from those of its
-- references, and a reference to a later entry, which reads as falsum, has depth 0, as has a place in a list that is not yet filled.
use mathlib.Core.Path.{◌≡◌, refl, sym, ap, ◌∙◌}
use mathlib.Core.Bool.{true}
use mathlib.Core.List.{List}
use Prim.Native.Nat.{ℕ, zero, suc, ◌<◌, ◌≤◌, zero-le}
use native.Mathlib.Nat.{not-suc-le-zero, lt-suc_self}
use native.Mathlib.Decide.{dec_lt}
use native.Mathlib.Omega.{arith}
use lib.ListN.{length, get_or, replicate, set}
use Rattle.packed.proofs.Filling.{fill_below, fill_behind}
use Rattle.packed.proofs.Zeros.{zeros_at}
use Rattle.semantics.specs.Formula.{depth}
use Rattle.table.specs.declared.entry.Entry.{Entry}
use Rattle.table.specs.Formulas.{depth_at, depth_of, Depths}
use Rattle.table.specs.Check.{uses_of}
use Rattle.table.specs.Formed.{WellFormed}
use Rattle.table.proofs.Cases.{by_kind}
use Rattle.table.proofs.Formulas.{earlier, earlier_below, earlier_past, formula_at_earlier, depth_formula_of}
use Rattle.table.proofs.Accepted.{depth_rule}

depth_of_le : (a b i k : ℕ) → ((uses_of k).first ≡ true → a < i) → ((uses_of k).second ≡ true → b < i) → depth_of a b k ≤ i
unfolding uses_of
depth_of_le a b i =
    by_kind (λ k. ((uses_of k).first ≡ true → a < i) → ((uses_of k).second ≡ true → b < i) → depth_of a b k ≤ i)
    (λ p q. zero-le)
    (λ p q. zero-le)
    (λ p q. zero-le)
    (λ p q. omega (arith, p refl))
    (λ p q. omega (arith, p refl, q refl))
    (λ p q. omega (arith, p refl, q refl))
    (λ p q. p refl)
    (λ p q. p refl)
    (λ k p q. zero-le)

module _ {entry : ℕ → Entry} {n : ℕ} (wf : WellFormed entry n) where
  depth_below : (m i : ℕ) → i < m → i < n → depth_at entry i ≤ i
  depth_below zero i l h = absurd (not-suc-le-zero l)
  depth_below (suc m) i l h =
      let part : (j : ℕ) → j < i → depth_at entry j < i = λ j less. omega (arith, depth_below m j (omega arith) (omega arith)) in
      rw (depth_rule wf i h) (depth_of_le _ _ i (entry i).kind (λ u. part (entry i).first ((wf i h).first u)) (λ u. part (entry i).second ((wf i h).second u)))

  -- the law, for every number of entries
  pub depth_le : (i : ℕ) → i < n → depth_at entry i ≤ i
  depth_le i = depth_below (suc i) i (lt-suc_self i)

  pub depths_le : {m : ℕ} {depths : List ℕ} → Depths entry m depths → m ≤ n → (j : ℕ) → get_or depths j 0 ≤ m
  depths_le {m} held inside j =
      elim (dec_lt j m) [ yes l ↦ rw (held.below j l) (omega (arith, depth_le j (omega arith))) | no g ↦ rw (held.behind j (omega arith)) zero-le ]

module _ (entry : ℕ → Entry) where
  pub depth_at_rule : (i : ℕ) → depth_at entry i ≡ depth_of (depth (earlier entry i (entry i).first)) (depth (earlier entry i (entry i).second)) (entry i).kind
  depth_at_rule i = ap depth (formula_at_earlier entry i) ∙ depth_formula_of (earlier entry i) (entry i)

  module _ {n : ℕ} {depths : List ℕ} (held : Depths entry n depths) where
    -- what the list holds for a reference of entry n
    pub depths_earlier : (j : ℕ) → get_or depths j 0 ≡ depth (earlier entry n j)
    unfolding depth
    depths_earlier j =
        elim (dec_lt j n) [ yes l ↦ held.below j l ∙ ap depth (sym (earlier_below entry n j l)) | no g ↦ held.behind j (omega arith) ∙ ap depth (sym (earlier_past entry n j (omega arith))) ]

    pub depths_next : n < length depths → Depths entry (suc n) (set depths n (depth_at entry n))
    depths_next room = record {
      below = fill_below (depth_at entry) (λ i. 0) n depths held.below held.behind room;
      behind = fill_behind (depth_at entry) (λ i. 0) n depths held.below held.behind;
    }

pub depths_none : (entry : ℕ → Entry) (n : ℕ) → Depths entry 0 (replicate n 0)
depths_none entry n = record { below = λ i h. absurd (not-suc-le-zero h); behind = λ i h. zeros_at n i }
