-- Places that may stand for others: by the word there, or by the kinds of the entry there and of its parts.
use mathlib.Core.Path.{◌≡◌, refl, sym, ap, ◌∙◌}
use mathlib.Core.Bool.{Bool, true, false, not}
use mathlib.Core.Logic.◌⊎◌.{inl, inr}
use Prim.Native.Nat.{ℕ, suc, ◌<◌, ◌≤◌}
use native.Mathlib.Omega.{arith}
use lib.ListN.{get_or}
use Rattle.semantics.specs.Formula.{falsum}
use Rattle.table.specs.declared.entry.Entry.{Entry}
use Rattle.table.specs.Formulas.{kinds, formula_of, formula_at}
use Rattle.table.specs.Check.{uses_of}
use Rattle.table.specs.Formed.{WellFormed}
use Rattle.table.proofs.Accepted.{formula_rule}
use Rattle.wide.specs.Wide.{StandsFor}
use Rattle.wide.specs.Fold.{join_kind, constant_kind, Spare, Turned}
use Rattle.wide.proofs.Standing.{stands_then, join, constant, undouble, join_turned, join_neutral, join_decided, join_same}

module _ {entry : ℕ → Entry} {n : ℕ} (formed : WellFormed entry n) where
  -- the formula of an entry of a known kind
  row : (k : ℕ) {i : ℕ} → i < n → (entry i).kind ≡ k → formula_at entry i ≡ get_or (kinds (formula_at entry) (entry i)) k falsum
  unfolding formula_of
  row k {i} l h = formula_rule formed i l ∙ ap (λ (k : ℕ). get_or (kinds (formula_at entry) (entry i)) k falsum) h

  -- the same entry, the same formula
  same_entry : {j r : ℕ} → j < n → r < n → entry j ≡ entry r → formula_at entry j ≡ formula_at entry r
  same_entry {j} {r} hj hr same = formula_rule formed j hj ∙ ap (formula_of (formula_at entry)) same ∙ sym (formula_rule formed r hr)

  pub same_stands : {i j r : ℕ} → r < n → Turned entry (suc r) i r → j ≤ i → entry j ≡ entry i → Turned entry n j r
  same_stands {i} {j} {r} inside turned less same = record {
    back = omega arith;
    stands = λ h. rw (same_entry {j = j} {r = i} (omega arith) (omega arith) same) (turned.stands (omega arith));
  }

module _ {entry : ℕ → Entry} {r : ℕ} (formed : WellFormed entry (suc r)) where
  double_at : (entry r).kind ≡ 3 → (entry (entry r).first).kind ≡ 3 → Turned entry (suc r) (entry (entry r).first).first r
  unfolding kinds uses_of
  double_at outer inner =
      let f = (entry r).first in
      let below : f < r = (formed r (omega arith)).first (rw outer refl) in
      let inside : f < suc r = omega arith in
      let twice : (entry f).first < f = (formed f inside).first (rw inner refl) in
      record {
        back = omega arith;
        stands = λ h. rw (row formed 3 h outer, row formed 3 inside inner) (undouble _);
      }

  -- the same, of the entries that were read
  pub double_stands : {outer inner : Entry} → outer ≡ entry r → inner ≡ entry outer.first → (entry r).kind ≡ 3 → inner.kind ≡ 3
      → Turned entry (suc r) inner.first r
  double_stands here at_first kind = rw (at_first, here) (double_at kind)

  constant_at : (b : Bool) {i : ℕ} → i < suc r → (entry i).kind ≡ constant_kind b → formula_at entry i ≡ constant b
  unfolding kinds
  constant_at true l h = row formed 0 l h
  constant_at false l h = row formed 1 l h

  module _ (b : Bool) (kind : (entry r).kind ≡ join_kind b) where
    join_at : formula_at entry r ≡ join b (formula_at entry (entry r).first) (formula_at entry (entry r).second)
    unfolding kinds
    join_at = elim b as (λ b. (entry r).kind ≡ join_kind b → formula_at entry r ≡ join b (formula_at entry (entry r).first) (formula_at entry (entry r).second))
        [ true ↦ row formed 4 (omega arith) | false ↦ row formed 5 (omega arith) ] kind

    parts_below : ((entry r).first < r) × ((entry r).second < r)
    unfolding uses_of
    parts_below =
        let uses : ((uses_of (join_kind b)).first ≡ true) × ((uses_of (join_kind b)).second ≡ true) = elim b as (λ b. ((uses_of (join_kind b)).first ≡ true) × ((uses_of (join_kind b)).second ≡ true)) [ true ↦ (refl, refl) | false ↦ (refl, refl) ] in
        ((formed r (omega arith)).first (rw kind uses.0), (formed r (omega arith)).second (rw kind uses.1))

    -- part i may stand for both if the other one, j, may be left out
    part_stands : {i j : ℕ} → i < r → j < r → Spare b (entry j).kind (entry i).kind → StandsFor (formula_at entry i) (join b (formula_at entry i) (formula_at entry j))
    part_stands hi hj (inl e) = rw (constant_at b (omega arith) e) (join_neutral b _)
    part_stands hi hj (inr e) = rw (constant_at (not b) (omega arith) e) (join_decided b _)

    first_at : Spare b (entry (entry r).second).kind (entry (entry r).first).kind → Turned entry (suc r) (entry r).first r
    first_at h =
        let l = parts_below in
        record { back = omega arith; stands = λ u. rw join_at (part_stands l.0 l.1 h) }

    second_at : Spare b (entry (entry r).first).kind (entry (entry r).second).kind → Turned entry (suc r) (entry r).second r
    second_at h =
        let l = parts_below in
        record { back = omega arith; stands = λ u. rw join_at (stands_then (part_stands l.1 l.0 h) (join_turned b _ _)) }

    same_at : (entry r).first ≡ (entry r).second → Turned entry (suc r) (entry r).first r
    same_at e =
        let l = parts_below in
        record { back = omega arith; stands = λ u. rw (join_at, ← e) (join_same b _) }

  -- the same, of the entries that were read
  module _ (b : Bool) (kind : (entry r).kind ≡ join_kind b) {e : Entry} (here : e ≡ entry r) where
    pub both_stand : e.first ≡ e.second → Turned entry (suc r) e.first r
    both_stand = rw here (same_at b kind)

    module _ {left right : Entry} (at_first : left ≡ entry e.first) (at_second : right ≡ entry e.second) where
      pub first_stands : Spare b right.kind left.kind → Turned entry (suc r) e.first r
      first_stands = rw (at_first, at_second, here) (first_at b kind)

      pub second_stands : Spare b left.kind right.kind → Turned entry (suc r) e.second r
      second_stands = rw (at_first, at_second, here) (second_at b kind)
