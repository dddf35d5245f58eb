-- The stack has no more slots than the table's sum of grades.
-- Why: each slot serves at least one successor to a need that the slots before it leave unmet, and a need asks for no more than its entry's weight.
use mathlib.Core.Path.{◌≡◌}
use mathlib.Core.Bool.{Bool, true, false}
use mathlib.Core.List.{List, [], ◌∷◌}
use Prim.Native.Nat.{ℕ, zero, suc, ◌+◌, ◌<◌, ◌≤◌, min, zero-le}
use native.Mathlib.Decide.{le_ind}
use native.Mathlib.Omega.{arith}
use lib.ListN.{length}
use Rattle.table.specs.declared.entry.Entry.{Entry}
use Rattle.table.specs.Space.{weight, sum_of_grades}
use Rattle.tableau.specs.Counting.{bound_kind, lo, total, served}
use Rattle.tableau.specs.Search.{Slot, rows_of, Problem, Lacks, Serving}
use Rattle.tableau.proofs.Bounds.{bound_cases}

pub lo_le_weight : (e : Entry) (b : Bool) → e.kind ≡ bound_kind b true → lo e ≤ weight e
lo_le_weight e true k = rw k (omega arith)
lo_le_weight e false k = rw k (omega arith)

-- what the slots serve to the entries below n, to each up to its weight
supplied : (ℕ → Entry) → List Slot → ℕ → ℕ
supplied entry slots zero = 0
supplied entry slots (suc i) = min (served i (rows_of slots)) (weight (entry i)) + supplied entry slots i

module _ (entry : ℕ → Entry) where
  supplied_le : (slots : List Slot) (n : ℕ) → supplied entry slots n ≤ sum_of_grades entry n
  unfolding supplied sum_of_grades
  supplied_le slots zero = zero-le
  supplied_le slots (suc n) = omega (arith, supplied_le slots n)

  supplied_grows : (s : Slot) (slots : List Slot) (n : ℕ) → supplied entry slots n ≤ supplied entry (s ∷ slots) n
  unfolding supplied total
  supplied_grows s slots zero = zero-le
  supplied_grows s slots (suc n) = omega (arith, supplied_grows s slots n)

module _ (P : Problem) where
  lacks_weight : {slots : List Slot} {b : ℕ} (lacks : Lacks P slots b) → served lacks.need (rows_of slots) < weight (P.entry lacks.need)
  lacks_weight lacks =
      let i = lacks.need in
      let (b, want, k) = bound_cases P.yes P.no (P.entry i) i true lacks.asks.bounds in
      omega (arith, lo_le_weight (P.entry i) b k, lacks.unmet)

  supplied_more : (s : Slot) (slots : List Slot) → 0 < s.copies → (lacks : Lacks P slots s.code) (n : ℕ) → lacks.need < n
      → supplied P.entry slots n < supplied P.entry (s ∷ slots) n
  unfolding supplied total
  supplied_more s slots pos lacks = le_ind _
      (rw lacks.promised (omega (arith, lacks_weight lacks, supplied_grows P.entry s slots lacks.need)))
      (λ n l h. omega arith)

  length_supplied : (slots : List Slot) → Serving P slots → length slots ≤ supplied P.entry slots P.n
  length_supplied [] serving = zero-le
  length_supplied (s ∷ slots) serving =
      omega (arith, length_supplied slots serving.2, supplied_more s slots serving.0 serving.1 P.n serving.1.asks.inside)

  pub slots_bound : (slots : List Slot) → Serving P slots → length slots ≤ sum_of_grades P.entry P.n
  slots_bound slots serving = omega (arith, length_supplied slots serving, supplied_le P.entry slots P.n)
