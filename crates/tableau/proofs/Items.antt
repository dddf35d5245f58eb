-- From the rows of solutions to the items of a root, and why their tallies are within the bounds.
-- Why: an item that promises a need counts for it, and one that promises a limit does not count; another relation's items count nothing.
use mathlib.Core.Path.{◌≡◌, refl}
use mathlib.Core.Bool.{Bool, true, false, not}
use mathlib.Core.List.{List, [], ◌∷◌, ◌++◌}
use Prim.Native.Nat.{ℕ, zero, suc, ◌+◌, ◌<◌, ◌≤◌, zero-le}
use native.Mathlib.Decide.{le_ind}
use native.Mathlib.Nat.{le_refl}
use native.Mathlib.Omega.{arith}
use lib.Dec.{eqb}
use lib.ListN.{replicate}
use borrow.Author.Tests.{eq-eqb, ne_eqb}
use Rattle.semantics.specs.Formula.{Formula}
use Rattle.semantics.specs.Truth.{truth}
use Rattle.semantics.proofs.Root.{Item, tally}
use Rattle.semantics.specs.Count.{gain}
use Rattle.semantics.proofs.Successors.{tally_append, tally_replicate}
use Rattle.table.specs.declared.entry.Entry.{Entry}
use Rattle.tableau.specs.Counting.{bound, need, limit, part_of, Row, total, served, spent, All, Feasible, Usable, Solution}
use Rattle.tableau.proofs.Bounds.{Fits}

gain_mono : (a b : Bool) (k : ℕ) → (a ≡ true → b ≡ true) → gain a k ≤ gain b k
gain_mono false b k h = zero-le
gain_mono true b k h = rw (h refl) (le_refl k)

gain_not : (a b : Bool) (k : ℕ) → (a ≡ true → b ≡ false) → gain b k ≤ gain (not a) k
gain_not true b k h = rw (h refl) zero-le
gain_not false b k h = gain_mono b true k (λ e. refl)

module _ (entry : ℕ → Entry) (yes no : ℕ → Bool) (r : ℕ) where
  -- a world that keeps the promises, as a successor by the relation r
  item_of : {promises : ℕ → Bool} → Feasible entry yes no promises → Item
  item_of here = record { reached = λ q. eqb q r; structure = here.structure; world = here.world; inside = here.inside }

  -- each row's item, as often as the row says
  items_from : (rows : List Row) → All (Usable entry yes no r) rows → List Item
  items_from [] usable = []
  items_from (row ∷ rows) usable = replicate row.copies (item_of usable.0.feasible) ++ items_from rows usable.1

  tally_other : (q : ℕ) (φ : Formula) → (q ≡ r → ⊥) → (rows : List Row) (usable : All (Usable entry yes no r) rows) → tally q φ (items_from rows usable) ≡ 0
  unfolding items_from item_of tally
  tally_other q φ ne [] usable = refl
  tally_other q φ ne (row ∷ rows) usable = rw (tally_append, tally_replicate, ne_eqb q r ne) (omega (arith, tally_other q φ ne rows usable.1))

  tally_row : (φ : Formula) (row : Row) (rows : List Row) (usable : All (Usable entry yes no r) (row ∷ rows))
      → tally r φ (items_from (row ∷ rows) usable)
      ≡ gain (truth usable.0.feasible.structure φ usable.0.feasible.world) row.copies + tally r φ (items_from rows usable.1)
  unfolding items_from item_of
  tally_row φ row rows usable = rw (tally_append, tally_replicate, eq-eqb r r refl)

  served_tally : (i : ℕ) → need yes no (entry i) i ≡ true → (rows : List Row) (usable : All (Usable entry yes no r) rows)
      → served i rows ≤ tally r (part_of entry i) (items_from rows usable)
  unfolding total
  served_tally i d [] usable = zero-le
  served_tally i d (row ∷ rows) usable = rw tally_row
      (omega (arith, gain_mono (row.promises i) _ row.copies (λ p. usable.0.feasible.keeps true i p d), served_tally i d rows usable.1))

  tally_spent : (i : ℕ) → limit yes no (entry i) i ≡ true → (rows : List Row) (usable : All (Usable entry yes no r) rows)
      → tally r (part_of entry i) (items_from rows usable) ≤ spent i rows
  unfolding total items_from tally
  tally_spent i d [] usable = zero-le
  tally_spent i d (row ∷ rows) usable = rw tally_row
      (omega (arith, gain_not (row.promises i) _ row.copies (λ p. usable.0.feasible.keeps false i p d), tally_spent i d rows usable.1))

module _ (entry : ℕ → Entry) (yes no : ℕ → Bool) (solution : (r : ℕ) → Solution entry yes no r) where
  -- the items of one relation; of all relations below m
  items_by : ℕ → List Item
  items_by r = items_from entry yes no r (solution r).rows (solution r).usable

  pub items_below : ℕ → List Item
  items_below zero = []
  items_below (suc r) = items_by r ++ items_below r

  module _ (r : ℕ) (φ : Formula) where
    items_by_other : (q : ℕ) → (r ≡ q → ⊥) → tally r φ (items_by q) ≡ 0
    unfolding items_by
    items_by_other q ne = tally_other entry yes no q r φ ne (solution q).rows (solution q).usable

    tally_past : (m : ℕ) → m ≤ r → tally r φ (items_below m) ≡ 0
    unfolding items_below tally
    tally_past zero h = refl
    tally_past (suc q) h = rw tally_append (omega (arith, items_by_other q (λ (e : r ≡ q). omega arith), tally_past q (omega arith)))

    tally_below : (m : ℕ) → r < m → tally r φ (items_below m) ≡ tally r φ (items_by r)
    unfolding items_below
    tally_below = le_ind _ (rw tally_append (omega (arith, tally_past r (le_refl r))))
        (λ m l e. rw tally_append (omega (arith, items_by_other m (λ (e : r ≡ m). omega arith))))

  items_by_fits : (c : Bool) (i : ℕ) → bound yes no (entry i) i c ≡ true → Fits c (entry i) (tally (entry i).name (part_of entry i) (items_by (entry i).name))
  unfolding items_by
  items_by_fits true i d =
      let known = solution (entry i).name in
      omega (arith, known.met i d refl, served_tally entry yes no (entry i).name i d known.rows known.usable)
  items_by_fits false i d =
      let known = solution (entry i).name in
      omega (arith, known.kept i d refl, tally_spent entry yes no (entry i).name i d known.rows known.usable)

  pub items_fit : (c : Bool) (i : ℕ) → bound yes no (entry i) i c ≡ true → (m : ℕ) → (entry i).name < m
      → Fits c (entry i) (tally (entry i).name (part_of entry i) (items_below m))
  items_fit c i d m h = rw tally_below (items_by_fits c i d)
