-- Where slots that are filled by copies of listed sets meet every need and keep every limit, the copies are an extension.
-- Why: the copies are taken in the order of the list, one set at a time, and end in these slots.
use mathlib.Core.Path.{◌≡◌}
use mathlib.Core.Bool.{Bool, true, false}
use mathlib.Core.List.{List}
use Prim.Native.Nat.{ℕ, zero, suc, ◌+◌, ◌*◌, ◌<◌, ◌≤◌}
use native.Mathlib.Nat.{add-zero, zero-add}
use native.Mathlib.Omega.{arith}
use Rattle.sets.specs.Word.{bit_at}
use Rattle.tableau.specs.Counting.{total}
use Rattle.tableau.specs.Search.{Problem, Met, Kept, Extension}
use Rattle.tableau.specs.Search.Choice.{done, some}
use Rattle.counting.specs.Stack.{slot_at, slots_of, counts, tally_of, FewCopies, Few}
use Rattle.counting.proofs.Slots.{gain_le}
use Rattle.listed.specs.Codes.{codes_from}
use Rattle.copies.specs.Filled.{copies_at, filled, HoldsAt}

-- ---- no sum is great

module _ (words : List ℕ) (c : Bool) (i : ℕ) where
  tally_le : (k : ℕ) → FewCopies words k → tally_of c i (slots_of words k) ≤ 4096 * k
  unfolding slots_of total
  tally_le zero few = omega arith
  tally_le (suc k) few =
      let slot = slot_at words k in
      omega (arith, gain_le (counts c (bit_at slot.code i)) slot.copies, few k (omega arith), tally_le k (λ j l. few j (omega arith)))

  pub tally_few : (k : ℕ) → Few words k → tally_of c i (slots_of words k) ≤ 1073741824
  tally_few k few = omega (arith, tally_le k few.copies)

-- ---- the copies are an extension

module _ (P : Problem) (words : List ℕ) (at slots from : ℕ) where
  -- the copies of the first j sets are taken, and those of k more are not yet
  extension_from : (k j : ℕ) → Met P (filled words at (j + k) slots from) → Kept P (filled words at (j + k) slots from)
      → Extension P (filled words at j slots from) (codes_from words (at + j) k)
  unfolding codes_from filled
  extension_from zero j met kept = done (rw add-zero at met) (rw add-zero at kept)
  extension_from (suc k) j met kept =
      let same : j + suc k ≡ suc j + k = omega arith in
      let next : at + suc j ≡ suc (at + j) = omega arith in
      some (copies_at words from j) (λ pos. tt) (rw next at (extension_from k (suc j) (rw same at met) (rw same at kept)))

  pub extension_filled : (k : ℕ) → ((i : ℕ) → i < P.n → HoldsAt P (filled words at k slots from) true i)
      → ((i : ℕ) → i < P.n → HoldsAt P (filled words at k slots from) false i) → Extension P (slots_of words slots) (codes_from words at k)
  unfolding filled
  extension_filled k met kept =
      rw add-zero at
      (extension_from k 0 (rw zero-add (record { met = λ i a. met i a.inside a })) (rw zero-add (record { kept = λ i a. kept i a.inside a })))
