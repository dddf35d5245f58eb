-- How slots can be extended to a solution depends only on what they serve and spend: more served, up to what is needed, and less spent is never worse.
-- Why: the same sets extend both, and at the end every bound is met and kept by the better one too.
use mathlib.Core.Path.{◌≡◌, refl, sym}
use mathlib.Core.Logic.{⊎_elim}
use mathlib.Core.Logic.◌⊎◌.{inl, inr}
use mathlib.Core.Bool.{Bool, true, false, not}
use mathlib.Core.List.{List, [], ◌∷◌}
use Prim.Native.Nat.{ℕ, zero, suc, ◌+◌, ◌<◌, ◌≤◌, min}
use native.Mathlib.Nat.{not-suc-le-zero, eq-or-lt_of_le, le_of_suc-le-suc}
use native.Mathlib.Omega.{arith}
use Rattle.semantics.specs.Count.{gain}
use Rattle.semantics.proofs.Sum.{gain_zero}
use Rattle.sets.specs.Word.{bit_at}
use Rattle.tableau.specs.Counting.{lo, total, served, spent}
use Rattle.tableau.specs.Search.{Slot, taken, rows_of, Problem, Asks, Met, Kept, Choice, codes_below}
use Rattle.tableau.specs.Search.Choice.{done, some}
use Rattle.tableau.specs.Listed.{In}

gain_add : (c : Bool) (k m : ℕ) → gain c (k + m) ≡ gain c k + gain c m
gain_add true k m = refl
gain_add false k m = refl

-- they serve and spend the same
record Same (slots slots' : List Slot) : Type 0 where
  same : (p : (ℕ → Bool) → Bool) → total (λ row. p row.promises) (rows_of slots) ≡ total (λ row. p row.promises) (rows_of slots')

none_same : {slots : List Slot} (b : ℕ) → Same (taken b 0 ∷ slots) slots
unfolding total
none_same b = record { same = λ p. omega (arith, gain_zero (p (bit_at b))) }

same_none : {slots : List Slot} (b : ℕ) → Same slots (taken b 0 ∷ slots)
same_none {slots} b = record { same = λ p. sym ((none_same {slots = slots} b).same p) }

swapped_same : {slots : List Slot} (s s' : Slot) → Same (s ∷ s' ∷ slots) (s' ∷ s ∷ slots)
unfolding total
swapped_same s s' = record { same = λ p. omega arith }

joined_same : {slots : List Slot} (b k m : ℕ) → Same (taken b k ∷ taken b m ∷ slots) (taken b (k + m) ∷ slots)
unfolding total
joined_same b k m = record { same = λ p. omega (arith, gain_add (p (bit_at b)) k m) }

-- the second slots serve no less, up to what is needed, and spend no more
pub record Better (P : Problem) (slots slots' : List Slot) : Type 0 where
  pub serves : (i : ℕ) → Asks P true i → min (lo (P.entry i)) (served i (rows_of slots)) ≤ served i (rows_of slots')
  pub spares : (i : ℕ) → Asks P false i → spent i (rows_of slots') ≤ spent i (rows_of slots)

module _ {P : Problem} where
  same_better : {slots slots' : List Slot} → Same slots slots' → Better P slots slots'
  same_better h = record { serves = λ i a. omega (arith, h.same (λ p. p i)); spares = λ i a. omega (arith, h.same (λ p. not (p i))) }

  pushed_better : {slots slots' : List Slot} (s : Slot) → Better P slots slots' → Better P (s ∷ slots) (s ∷ slots')
  unfolding total
  pushed_better s h = record { serves = λ i a. omega (arith, h.serves i a); spares = λ i a. omega (arith, h.spares i a) }

  met_better : {slots slots' : List Slot} → Better P slots slots' → Met P slots → Met P slots'
  met_better h m = record { met = λ i a. omega (arith, m.met i a, h.serves i a) }

  kept_better : {slots slots' : List Slot} → Better P slots slots' → Kept P slots → Kept P slots'
  kept_better h k = record { kept = λ i a. omega (arith, k.kept i a, h.spares i a) }

  module _ {may : ℕ → Type 0} where
    pub ext_better : {list : List ℕ} {slots slots' : List Slot} → Better P slots slots' → Choice P may slots list → Choice P may slots' list
    ext_better h (done m k) = done (met_better h m) (kept_better h k)
    ext_better h (some {b = b} m ok e) = some m ok (ext_better (pushed_better (taken b m) h) e)

    ext_same : {list : List ℕ} {slots slots' : List Slot} → Same slots slots' → Choice P may slots list → Choice P may slots' list
    ext_same h = ext_better (same_better h)

    pub ext_none : {list : List ℕ} {b : ℕ} {slots : List Slot} → Choice P may (taken b 0 ∷ slots) list → Choice P may slots list
    ext_none {b = b} = ext_same (none_same b)

    pub ext_with_none : {list : List ℕ} {slots : List Slot} (b : ℕ) → Choice P may slots list → Choice P may (taken b 0 ∷ slots) list
    ext_with_none b = ext_same (same_none b)

    -- slots that are a solution need no extension
    pub ext_done : {slots : List Slot} → Met P slots → Kept P slots → (list : List ℕ) → Choice P may slots list
    ext_done met kept [] = done met kept
    ext_done met kept (b ∷ rest) = some 0 (λ pos. absurd (not-suc-le-zero pos)) (ext_with_none b (ext_done met kept rest))

  -- limits that are kept in the end are kept already
  pub kept_before : {slots : List Slot} {s : Slot} → Kept P (s ∷ slots) → Kept P slots
  unfolding total
  kept_before k = record { kept = λ i a. omega (arith, k.kept i a) }

  module _ {may : ℕ → Type 0} where
    pub ext_kept : {list : List ℕ} {slots : List Slot} → Choice P may slots list → Kept P slots
    ext_kept (done m k) = k
    ext_kept (some m ok e) = kept_before (ext_kept e)

    -- a slot of a listed set can be left for the extension, which has copies of that set at its place in the order
    pub ext_inserted : (list : List ℕ) {b m : ℕ} {slots : List Slot} → In b list → may b → Choice P may (taken b m ∷ slots) list → Choice P may slots list
    ext_inserted [] {b = b} {m = m} {slots = slots} listed fit _ = elim listed [ ]
    ext_inserted (c ∷ rest) {m = m} {slots = slots} (inl at) fit (some k ok e) =
        some {slots = slots} {b = c} (k + m) (λ pos. rw (← at) fit) (ext_same (rw at (joined_same c k m)) e)
    ext_inserted (c ∷ rest) {b = b} {m = m} (inr later) fit (some k ok e) =
        some k ok (ext_inserted rest later fit (ext_same (swapped_same (taken c k) (taken b m)) e))

pub below_listed : {b : ℕ} (t : ℕ) → b < t → In b (codes_below t)
unfolding codes_below
below_listed zero l = absurd (not-suc-le-zero l)
below_listed (suc c) l = ⊎_elim (λ (at : _ ≡ c). inl at) (λ (less : _ < c). inr (below_listed c less)) (eq-or-lt_of_le (le_of_suc-le-suc l))
