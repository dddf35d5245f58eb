-- Each step of the search keeps it open, and keeps the limits.
-- Why: of the set at hand a solution has fewer copies than the useful number, which is left for later; or as many; or more, and those beyond the number
-- can be dropped, since limits only gain, the needs that the set serves have enough, and the others do not count it.
use mathlib.Core.Path.{◌≡◌, refl}
use mathlib.Core.Logic.{◌⊎◌, ⊎_elim, ⊎_map, by_cases}
use mathlib.Core.Bool.{Bool, true, false, not}
use mathlib.Core.List.{List, [], ◌∷◌}
use Prim.Native.Nat.{ℕ, zero, suc, ◌+◌, ◌-◌, ◌<◌, ◌≤◌, min, zero-le}
use native.Mathlib.Decide.{le_ind, dec_lt, ℕ_discrete}
use native.Mathlib.Nat.{not-suc-le-zero, zero-lt-suc, lt-suc_self, eq-or-lt_of_le}
use native.Mathlib.Omega.{arith}
use Rattle.semantics.specs.Count.{gain}
use Rattle.sets.specs.Word.{bit_at}
use Rattle.tableau.specs.Counting.{lo, total, served, spent}
use Rattle.tableau.specs.Search.{Slot, taken, rows_of, Problem, Asks, Met, Kept, Fit, Choice, codes_below, Open, Full, Useful}
use Rattle.tableau.specs.Search.Choice.{done, some}
use Rattle.tableau.specs.Search.Back.{fewer, earlier}
use Rattle.tableau.specs.Search.Open.{next, later}
use Rattle.tableau.proofs.Extend.{Better, ext_better, ext_none, ext_kept}

-- what k copies serve up to l, m copies do too, if k is no more, or m is enough
gain_enough : (c : Bool) (s : ℕ) {k m l : ℕ} → (c ≡ true → (k ≤ m) ⊎ (l ≤ s + m)) → min l (gain c k + s) ≤ gain c m + s
gain_enough true s {k} {m} {l} h = ⊎_elim (λ (q : k ≤ m). omega arith) (λ (q : l ≤ s + m). omega arith) (h refl)
gain_enough false s h = omega arith

-- m copies fit where there is room, if the set counts, and where there was none, if it does not
gain_room : (c : Bool) (s m : ℕ) {h : ℕ} → s ≤ h → (c ≡ false → s + m ≤ h) → gain (not c) m + s ≤ h
gain_room true s m l room = omega arith
gain_room false s m l room = omega (arith, room refl)

gain_le : (c : Bool) {m k : ℕ} → m ≤ k → gain c m ≤ gain c k
gain_le true h = h
gain_le false h = zero-le

module _ {P : Problem} {slots : List Slot} where
  -- ---- the limits

  module _ {b m : ℕ} where
    pub kept_taken : Kept P slots → Useful P slots b m → Kept P (taken b m ∷ slots)
    unfolding total
    kept_taken h u = record { kept = λ i a. gain_room (bit_at b i) (spent i (rows_of slots)) m (h.kept i a) (u.room i a) }

    pub kept_lowered : {k : ℕ} → k ≤ m → Kept P (taken b m ∷ slots) → Kept P (taken b k ∷ slots)
    unfolding total
    kept_lowered l h = record { kept = λ i a. omega (arith, h.kept i a, gain_le (not (bit_at b i)) l) }

    -- ---- a set is taken

    few_or_enough : {k : ℕ} → Useful P slots b m → Kept P (taken b k ∷ slots)
        → (k ≤ m) ⊎ ((i : ℕ) → Asks P true i → bit_at b i ≡ true → lo (P.entry i) ≤ served i (rows_of slots) + m)
    unfolding total
    few_or_enough u h = ⊎_map (λ (f : Full P slots b m). omega (arith, rw f.broken at (h.kept f.limit f.asks))) (λ q. q) u.enough

    useful_better : {k : ℕ} → Useful P slots b m → m ≤ k → Kept P (taken b k ∷ slots) → Better P (taken b k ∷ slots) (taken b m ∷ slots)
    unfolding total
    useful_better u l h = record {
      serves = λ i a. gain_enough (bit_at b i) (served i (rows_of slots)) (λ p. ⊎_map (λ q. q) (λ q. q i a p) (few_or_enough u h));
      spares = λ i a. omega (arith, gain_le (not (bit_at b i)) l);
    }

    -- an extension has no more copies than the useful number, or need not have more
    pub ext_useful : {may : ℕ → Type 0} {rest : List ℕ} → Useful P slots b m → Choice P may slots (b ∷ rest)
        → (k : ℕ) × (k ≤ m) × Choice P may (taken b k ∷ slots) rest
    ext_useful u (some k ok e) =
        by_cases (dec_lt k m) (λ (l : k < m). (k, omega arith, e)) (λ (g : ¬ (k < m)). (m, omega arith, ext_better (useful_better u (omega arith) (ext_kept e)) e))

    pub open_taken : Useful P slots b m → Open P slots (suc b) → Open P (taken b m ∷ slots) b
    unfolding codes_below
    open_taken u (next e) =
        let (k, l, rest) = ext_useful u e in
        ⊎_elim (λ (at : k ≡ m). next (rw at at rest)) (λ (less : k < m). later (fewer k less rest)) (eq-or-lt_of_le l)
    open_taken u (later h) = later (earlier h)

  -- ---- no set is taken

  -- no copies are as good as no slot
  pub open_dropped : {b t : ℕ} → Open P (taken b 0 ∷ slots) t → Open P slots t
  open_dropped (next e) = next (ext_none e)
  open_dropped (later (fewer m l e)) = absurd (not-suc-le-zero l)
  open_dropped (later (earlier h)) = later h

  pub open_useless : {b : ℕ} → Useful P slots b 0 → Open P slots (suc b) → Open P slots b
  open_useless u o = open_dropped (open_taken u o)

  pub open_unfit : {b : ℕ} → (Fit P b → ⊥) → Open P slots (suc b) → Open P slots b
  unfolding codes_below
  open_unfit un (next (some zero ok e)) = next (ext_none e)
  open_unfit un (next (some (suc m) ok e)) = absurd (un (ok (zero-lt-suc m)))
  open_unfit un (later h) = later h

  -- there is no fit set from t' to t
  pub open_skipped : {t' : ℕ} (t : ℕ) → t' ≤ t → ((x : ℕ) → x < t → Fit P x → x < t') → Open P slots t → Open P slots t'
  open_skipped {t'} =
      le_ind (λ (t : ℕ). ((x : ℕ) → x < t → Fit P x → x < t') → Open P slots t → Open P slots t') (λ un o. o)
      (λ t l skip un o. skip (λ x h. un x (omega arith)) (open_unfit (λ fit. omega (arith, un t (lt-suc_self t) fit)) o))

  -- ---- the newest slot is lowered

  pub open_lowered : {b m : ℕ} → 0 < m → (Met P (taken b m ∷ slots) → ⊥) → Open P (taken b m ∷ slots) 0 → Open P (taken b (m - 1) ∷ slots) b
  unfolding codes_below
  open_lowered pos un (next (done met kept)) = absurd (un met)
  open_lowered {b} {m} pos un (later (fewer k l e)) =
      by_cases (ℕ_discrete k (m - 1)) (λ (at : k ≡ m - 1). next (rw (← at) e)) (λ (off : ¬ (k ≡ m - 1)). later (fewer k (omega arith) e))
  open_lowered pos un (later (earlier h)) = later (earlier h)

pub kept_none : {P : Problem} → Kept P []
unfolding total
kept_none = record { kept = λ i a. zero-le }

pub open_never : {P : Problem} → (Met P [] → ⊥) → Open P [] 0 → ⊥
unfolding codes_below
open_never un (next (done met kept)) = un met
open_never {P = P} un (later never) = elim never [ ]
