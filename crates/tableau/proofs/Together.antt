-- Where all promises can be kept together, as many such successors as all needs ask for are a solution.
use mathlib.Core.Path.{◌≡◌}
use mathlib.Core.Bool.{Bool, true, false}
use mathlib.Core.List.{[], ◌∷◌}
use mathlib.Core.Logic.{⊎_elim}
use Prim.Native.Nat.{ℕ, zero, suc, ◌<◌, ◌≤◌}
use native.Mathlib.Nat.{eq-or-lt_of_le, le_of_suc-le-suc, not-suc-le-zero}
use native.Mathlib.Omega.{arith}
use Rattle.sets.specs.Set.{Within}
use Rattle.sets.specs.Word.{bit_at}
use Rattle.table.specs.declared.entry.Entry.{Entry}
use Rattle.table.specs.Space.{weight, sum_of_grades}
use Rattle.tableau.specs.Wants.{wanted}
use Rattle.tableau.specs.Counting.{bound, lo, total}
use Rattle.tableau.specs.Search.{Problem, asking, Fit, Solvable}
use Rattle.tableau.proofs.Bounds.{bound_cases, bound_speaks}
use Rattle.tableau.proofs.Stack.{lo_le_weight}

weight_below : (entry : ℕ → Entry) (n i : ℕ) → i < n → weight (entry i) ≤ sum_of_grades entry n
unfolding sum_of_grades
weight_below entry zero i l = absurd (not-suc-le-zero l)
weight_below entry (suc n) i l =
    ⊎_elim (λ (e : i ≡ n). rw e (omega arith)) (λ (less : i < n). omega (arith, weight_below entry n i less)) (eq-or-lt_of_le (le_of_suc-le-suc l))

module _ (P : Problem) (below : (b : Bool) (i : ℕ) → wanted P.yes P.no b i ≡ true → i < P.n) (b : ℕ) (all : Within (asking P) (bit_at b)) where
  promised : (c : Bool) (i : ℕ) → bound P.yes P.no (P.entry i) i c ≡ true → (P.entry i).name ≡ P.relation → bit_at b i ≡ true
  promised c i bounds here = all i (bound_speaks P.yes P.no (P.entry i) i c bounds here)

  lo_below : (i : ℕ) → bound P.yes P.no (P.entry i) i true ≡ true → lo (P.entry i) ≤ sum_of_grades P.entry P.n
  lo_below i bounds =
      let (c, want, kind) = bound_cases P.yes P.no (P.entry i) i true bounds in
      omega (arith, lo_le_weight (P.entry i) c kind, weight_below P.entry P.n i (below c i want))

  pub together : Fit P b → Solvable P
  unfolding total
  together fit = record {
    rows = record { promises = bit_at b; copies = sum_of_grades P.entry P.n } ∷ [];
    usable = (record { within = fit.within; feasible = fit.feasible }, tt);
    met = λ i bounds here. rw (promised true i bounds here) (omega (arith, lo_below i bounds));
    kept = λ i bounds here. rw (promised false i bounds here) (omega arith);
  }
