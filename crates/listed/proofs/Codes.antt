-- Listed codes, place by place, and what a code that is written behind them changes.
use mathlib.Core.Path.{◌≡◌, refl, sym, ap, ap₂, ◌∙◌}
use mathlib.Core.Logic.{⊎_map}
use mathlib.Core.Logic.◌⊎◌.{inl, inr}
use mathlib.Core.Bool.{Bool, true, false, not, ◌&&◌, true≢false}
use mathlib.Core.List.{List, ◌∷◌}
use Prim.Native.Nat.{ℕ, zero, suc, ◌+◌, ◌<◌}
use native.Mathlib.Nat.{add-zero, eq-or-lt_of_le, le_of_suc-le-suc, not-suc-le-zero}
use native.Mathlib.Omega.{arith}
use lib.ListN.{length, get_or, set}
use lib.Seq.{get_or-set_same, get_or-set_other}
use Rattle.sets.specs.Set.{nothing, but_not, Within}
use Rattle.tableau.specs.Listed.{In}
use Rattle.listed.specs.Codes.{codes_from, Appended}

-- what has nothing that another has not lies within it
pub nothing_left : (p q : ℕ → Bool) → but_not p q ≡ nothing → Within p q
nothing_left p q none i h = by_cases (q i) refl
  where
    by_cases : (b : Bool) → q i ≡ b → q i ≡ true
    by_cases true is = is
    by_cases false is =
        let without : p i && not (q i) ≡ false = ap (λ (t : ℕ → Bool). t i) none in
        absurd (true≢false (rw (h, is) at without))

-- the words say the same from a place on
abbrev pub Alike : (words others : List ℕ) (at k : ℕ) → Type 0
Alike words others at k = (j : ℕ) → j < k → get_or others (at + j) 0 ≡ get_or words (at + j) 0

module _ (words : List ℕ) where
  pub code_listed : (at k j : ℕ) → j < k → In (get_or words (at + j) 0) (codes_from words at k)
  unfolding codes_from
  code_listed at zero j l = absurd (not-suc-le-zero l)
  code_listed at (suc k) zero l = inl (ap (λ (i : ℕ). get_or words i 0) (add-zero at))
  code_listed at (suc k) (suc j) l =
      let same : suc at + j ≡ at + suc j = omega arith in
      inr (rw same at (code_listed (suc at) k j (le_of_suc-le-suc l)))

  pub listed_place : (at k : ℕ) {b : ℕ} → In b (codes_from words at k) → (j : ℕ) × (j < k) × (b ≡ get_or words (at + j) 0)
  unfolding codes_from
  listed_place at zero never = elim never [ ]
  listed_place at (suc k) (inl e) = (0, omega arith, e ∙ ap (λ (i : ℕ). get_or words i 0) (sym (add-zero at)))
  listed_place at (suc k) (inr here) =
      let (j, l, e) = listed_place (suc at) k here in
      let same : suc at + j ≡ at + suc j = omega arith in
      (suc j, omega arith, rw (← same) e)

pub codes_alike : (words others : List ℕ) (at k : ℕ) → Alike words others at k → codes_from others at k ≡ codes_from words at k
unfolding codes_from
codes_alike words others at zero h = refl
codes_alike words others at (suc k) h =
    ap₂ (λ (c : ℕ) (l : List ℕ). c ∷ l) (rw add-zero at (h 0 (omega arith)))
    (codes_alike words others (suc at) k (λ j l. let same : suc at + j ≡ at + suc j = omega arith in rw same (h (suc j) (omega arith))))

module _ (words : List ℕ) (at k b : ℕ) (room : at + k < length words) where
  after : List ℕ
  after = set words (at + k) b

  place : (j : ℕ) → j < k → get_or after (at + j) 0 ≡ get_or words (at + j) 0
  unfolding after
  place j l = get_or-set_other words (at + k) (at + j) b 0 (omega arith)

  here : get_or after (at + k) 0 ≡ b
  unfolding after
  here = get_or-set_same words (at + k) b 0 room

  pub appended : Appended words at k b (set words (at + k) b)
  unfolding after
  appended = record {
    older = λ c h. let (j, l, e) = listed_place words at k h in rw (e ∙ sym (place j l)) (code_listed after at (suc k) j (omega arith));
    new = rw here at (code_listed after at (suc k) k (omega arith));
    no_other = λ c h.
        let (j, l, e) = listed_place after at (suc k) h in
        ⊎_map (λ (q : j ≡ k). e ∙ ap (λ (i : ℕ). get_or after (at + i) 0) q ∙ here)
        (λ (less : j < k). rw (e ∙ place j less) (code_listed words at k j less))
        (eq-or-lt_of_le (le_of_suc-le-suc l));
    elsewhere = λ i off. get_or-set_other words (at + k) i b 0 off;
  }
