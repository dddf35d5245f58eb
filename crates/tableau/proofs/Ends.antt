-- The search starts open where there is a solution, and what it finds is one.
-- Why: a row's promises lie below w, so they are the bits of a number below 2 ^ w, and the rows of a solution are slots; each can be left for the
-- extension. In the end the slots are rows.
use mathlib.Core.Path.{◌≡◌, refl, sym, ◌∙◌, fun_ext}
use mathlib.Core.Logic.{⊎_elim, by_cases}
use mathlib.Core.Bool.{Bool, true, false, not-eq-not}
use mathlib.Core.List.{List, [], ◌∷◌, map}
use Prim.Native.Nat.{ℕ, ◌^◌, ◌<◌, ◌≤◌}
use native.Mathlib.Decide.{dec_lt}
use native.Mathlib.Omega.{arith}
use lib.Dec.{eqb}
use Rattle.sets.specs.Word.{bit_at, word}
use Rattle.sets.proofs.Words.{word_lt, bit_word, bit_word_high}
use Rattle.tableau.specs.Wants.{wanted}
use Rattle.tableau.specs.Counting.{bound, need, Row, All}
use Rattle.tableau.specs.Search.{Slot, taken, rows_of, Each, Problem, asking, Met, Kept, Solvable, FitRow, Fit, codes_below, Ext, Open}
use Rattle.tableau.specs.Search.Open.{next}
use Rattle.sets.proofs.Tests.{both_parts, one_of}
use Rattle.tableau.proofs.Bounds.{bound_cases}
use Rattle.tableau.proofs.Extend.{ext_done, ext_inserted, below_listed}

-- a test that no number from w on passes is that of the bits of its word
word_spells : (w : ℕ) (p : ℕ → Bool) → ((i : ℕ) → p i ≡ true → i < w) → bit_at (word p w) ≡ p
word_spells w p below = fun_ext λ i.
    by_cases (dec_lt i w) (λ (l : i < w). bit_word p l)
    (λ (g : ¬ (i < w)). bit_word_high p (omega arith) ∙ sym ((not-eq-not {b = false}).0 λ h. g (below i h)))

coded : (w : ℕ) → Row → Slot
coded w row = taken (word row.promises w) row.copies

module _ (P : Problem) (below : (b : Bool) (i : ℕ) → wanted P.yes P.no b i ≡ true → i < P.n) where
  bound_below : (c : Bool) (i : ℕ) → bound P.yes P.no (P.entry i) i c ≡ true → i < P.n
  bound_below c i d = let (b, want, k) = bound_cases P.yes P.no (P.entry i) i c d in below b i want

  asking_below : (i : ℕ) → asking P i ≡ true → i < P.n
  asking_below i h =
      let either = (both_parts true (eqb (P.entry i).name P.relation) _ h).1 in
      ⊎_elim (bound_below true i) (bound_below false i) (one_of (need P.yes P.no (P.entry i) i) _ either)

  -- ---- the end

  all_usable : (slots : List Slot) → Each (Fit P) slots → All (FitRow P) (rows_of slots)
  all_usable [] fit = tt
  all_usable (s ∷ slots) fit = (record { within = fit.0.within; feasible = fit.0.feasible }, all_usable slots fit.1)

  pub found : {slots : List Slot} → Each (Fit P) slots → Met P slots → Kept P slots → Solvable P
  found {slots} fit m k = record {
    rows = rows_of slots;
    usable = all_usable slots fit;
    met = λ i d e. m.met i (record { inside = bound_below true i d; bounds = d; here = e });
    kept = λ i d e. k.kept i (record { inside = bound_below false i d; bounds = d; here = e });
  }

  -- ---- the start

  module _ (w : ℕ) (fits : P.n ≤ w) where
    spells : {row : Row} → FitRow P row → bit_at (word row.promises w) ≡ row.promises
    spells {row} u = word_spells w row.promises (λ i h. omega (arith, asking_below i (u.within i h)))

    rows_coded : (rows : List Row) → All (FitRow P) rows → rows_of (map (coded w) rows) ≡ rows
    unfolding coded
    rows_coded [] us = refl
    rows_coded (row ∷ rows) us = rw (spells us.0, rows_coded rows us.1)

    fit_coded : {row : Row} → FitRow P row → Fit P (word row.promises w)
    fit_coded u = rw (spells u) (record { within = u.within; feasible = u.feasible })

    ext_left : (rows : List Row) → All (FitRow P) rows → Ext P (map (coded w) rows) (2 ^ w) → Ext P [] (2 ^ w)
    unfolding coded
    ext_left [] us e = e
    ext_left (row ∷ rows) us e = ext_left rows us.1 (ext_inserted (codes_below (2 ^ w)) (below_listed (2 ^ w) (word_lt row.promises w)) (fit_coded us.0) e)

    pub start : Solvable P → Open P [] (2 ^ w)
    start known =
        let same = rows_coded known.rows known.usable in
        let met : Met P (map (coded w) known.rows) = record { met = λ i a. rw same (known.met i a.bounds a.here) } in
        let kept : Kept P (map (coded w) known.rows) = record { kept = λ i a. rw same (known.kept i a.bounds a.here) } in
        next (ext_left known.rows known.usable (ext_done met kept (codes_below (2 ^ w))))
