-- Where a list of sets stands for all, a problem that has a solution has one of listed sets.
-- Why: a row moves onto the listed set above it, and needs are only exceeded, limits only undercut; a row that serves no need or has no copies can go.
use mathlib.Core.Path.{◌≡◌, refl, sym, ◌∙◌}
use mathlib.Core.Bool.{Bool, true, false, not, ◌&&◌, false≢true, not-eq-not}
use mathlib.Core.Logic.{by_cases}
use mathlib.Core.List.{List, [], ◌∷◌}
use Prim.Native.Nat.{ℕ, ◌<◌, ◌≤◌}
use native.Mathlib.Nat.{le_refl, lt_irrefl}
use native.Mathlib.Decide.{ℕ_discrete}
use native.Mathlib.Omega.{arith}
use lib.Dec.{eqb}
use borrow.Author.Tests.{eqb-true, eq-eqb}
use Rattle.semantics.specs.Count.{gain}
use Rattle.semantics.proofs.Sum.{gain_zero}
use Rattle.sets.specs.Word.{bit_at}
use Rattle.tableau.specs.Counting.{Row, total, All, need, hi, served, spent}
use Rattle.tableau.specs.Search.{Slot, taken, rows_of, Each, Problem, Asks, FitRow, Met, Kept, Solvable}
use Rattle.tableau.specs.Listed.{In, Spares, Covers}
use Rattle.sets.proofs.Tests.{both_parts, both_made}
use Rattle.tableau.proofs.Finite.{any, any_found, found_any}

gain_grows : (a b : Bool) (c : ℕ) → (a ≡ true → b ≡ true) → gain a c ≤ gain b c
gain_grows true b c h = rw (h refl) (le_refl c)
gain_grows false b c h = omega arith

gain_shrinks : (a b : Bool) (c : ℕ) → (a ≡ true → b ≡ true) → gain (not b) c ≤ gain (not a) c
gain_shrinks true b c h = rw (h refl) (le_refl 0)
gain_shrinks false true c h = omega arith
gain_shrinks false false c h = le_refl c

module _ (P : Problem) (list : List ℕ) (covers : Covers P list) where
  -- slots of listed sets that do as well as the rows
  record Moved (rows : List Row) : Type 0 where
    slots : List Slot
    listed : Each (λ b. In b list) slots
    serves : (i : ℕ) → Asks P true i → served i rows ≤ served i (rows_of slots)
    spares : (j : ℕ) → Asks P false j → spent j (rows_of slots) ≤ spent j rows

  -- does the row promise the need i
  for_need : Row → ℕ → Bool
  for_need row i = row.promises i && (eqb (P.entry i).name P.relation && need P.yes P.no (P.entry i) i)

  asked_need : (row : Row) {i : ℕ} → Asks P true i → row.promises i ≡ true → for_need row i ≡ true
  unfolding for_need
  asked_need row asks p = both_made true p (both_made true (eq-eqb _ _ asks.here) asks.bounds)

  moved_row : (row : Row) (rows : List Row) → FitRow P row → Spares P row → Moved rows → (b : Bool) → any (for_need row) P.n ≡ b → Moved (row ∷ rows)
  unfolding for_need total
  moved_row row rows fit spares rest true found =
      let (i, inside, h) = any_found (for_need row) P.n found in
      let parts = both_parts true (row.promises i) _ h in
      let bounds = both_parts true (eqb (P.entry i).name P.relation) _ parts.1 in
      let (b, here, within) = covers.above row fit spares i (record { inside = inside; bounds = bounds.1; here = eqb-true _ _ bounds.0 }) parts.0 in
      record {
        slots = taken b row.copies ∷ rest.slots;
        listed = (here, rest.listed);
        serves = λ k asks. omega (arith, gain_grows (row.promises k) (bit_at b k) row.copies (within k), rest.serves k asks);
        spares = λ k asks. omega (arith, gain_shrinks (row.promises k) (bit_at b k) row.copies (within k), rest.spares k asks);
      }
  moved_row row rows fit spares rest false none = record {
    slots = rest.slots;
    listed = rest.listed;
    serves = λ k asks.
        let idle : row.promises k ≡ false = (not-eq-not {b = false}).0 λ p. false≢true (sym none ∙ found_any (for_need row) P.n asks.inside (asked_need row asks p)) in
        let none_served : gain (row.promises k) row.copies ≡ 0 = rw idle refl in
        omega (arith, none_served, rest.serves k asks);
    spares = λ k asks. omega (arith, rest.spares k asks);
  }

  -- the limits are kept
  abbrev Within_limits : List Row → Type 0
  Within_limits rows = (j : ℕ) → Asks P false j → spent j rows ≤ hi (P.entry j)

  row_spares : (row : Row) (rows : List Row) → 0 < row.copies → Within_limits (row ∷ rows) → Spares P row
  unfolding total
  row_spares row rows some kept j asks none = by_promise (row.promises j) refl
    where
      by_promise : (b : Bool) → row.promises j ≡ b → row.promises j ≡ true
      by_promise true is = is
      by_promise false is = absurd (lt_irrefl 0 (omega (arith, some, none, rw is at (kept j asks))))

  no_copies : (row : Row) (rows : List Row) → row.copies ≡ 0 → Moved rows → Moved (row ∷ rows)
  unfolding total
  no_copies row rows none rest = record {
    slots = rest.slots;
    listed = rest.listed;
    serves = λ k asks. rw none (omega (arith, gain_zero (row.promises k), rest.serves k asks));
    spares = λ k asks. omega (arith, rest.spares k asks);
  }

  moved : (rows : List Row) → All (FitRow P) rows → Within_limits rows → Moved rows
  unfolding total
  moved [] all kept = record { slots = []; listed = tt; serves = λ i asks. le_refl 0; spares = λ j asks. le_refl 0 }
  moved (row ∷ rows) all kept =
      let rest = moved rows all.1 (λ j asks. omega (arith, kept j asks)) in
      by_cases (ℕ_discrete row.copies 0)
      (λ (none : row.copies ≡ 0). no_copies row rows none rest)
      (λ (some : ¬ (row.copies ≡ 0)). moved_row row rows all.0 (row_spares row rows (omega arith) kept) rest (any (for_need row) P.n) refl)

  pub listed_solution : Solvable P → (slots : List Slot) × Each (λ b. In b list) slots × Met P slots × Kept P slots
  listed_solution s =
      let m = moved s.rows s.usable (λ j asks. s.kept j asks.bounds asks.here) in (
        m.slots,
        m.listed,
        record { met = λ i asks. omega (arith, s.met i asks.bounds asks.here, m.serves i asks) },
        record { kept = λ j asks. omega (arith, s.kept j asks.bounds asks.here, m.spares j asks) },
      )
