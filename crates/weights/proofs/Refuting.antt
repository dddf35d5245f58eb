-- What is checked, set by set and in sum, is a refutation by weights: of needs and limits, each with the weight of its entry.
use mathlib.Core.Path.{◌≡◌, refl, ◌∙◌}
use mathlib.Core.Bool.{Bool, true, false, not, ◌&&◌}
use mathlib.Core.List.{List}
use Prim.Native.Nat.{ℕ, ◌+◌, ◌*◌, ◌/◌, ◌<◌, ◌≤◌}
use native.Mathlib.Nat.{lt_irrefl, mul-one, mul-zero, zero-mul}
use native.Mathlib.Omega.{arith}
use Rattle.semantics.specs.Count.{bit, gain, sum}
use Rattle.semantics.proofs.Sum.{sum_same, sum_cut}
use Rattle.sets.specs.Set.{both, but_not}
use Rattle.sets.specs.Word.{bit_at}
use Rattle.tableau.specs.Search.{Slot, Problem}
use Rattle.tableau.specs.Listed.{In}
use Rattle.tableau.specs.Weights.{up, serves, costs, lack, room, Weighing, Refuted, RefutedWith}
use Rattle.counting.specs.Question.{OnlyAsked}
use Rattle.weights.specs.Weighed.{over}

gain_both : (a b : Bool) (w : ℕ) → gain a w * bit b ≡ gain (a && b) w
gain_both true true w = mul-one w
gain_both true false w = mul-zero w
gain_both false b w = zero-mul (bit b)

gain_times : (a : Bool) (w x : ℕ) → gain a w * x ≡ gain a (w * x)
gain_times true w x = refl
gain_times false w x = zero-mul x

gain_passed : (a : Bool) (w : ℕ) → 0 < gain a w → a ≡ true
gain_passed true w h = refl
gain_passed false w h = absurd (lt_irrefl 0 h)

gain_none : (a : Bool) (w : ℕ) → (a ≡ true → ⊥) → gain a w ≡ 0
gain_none true w h = absurd (h refl)
gain_none false w h = refl

module _ (P : Problem) (few : P.n ≤ 64) (f : ℕ → ℕ) where
  module _ (c : Bool) (p : ℕ → Bool) (only : OnlyAsked P c p) where
    -- only entries have a weight
    whole : (g : ℕ → ℕ) → sum (λ i. gain (p i) (f i) * g i) P.n ≡ sum (λ i. gain (p i) (f i) * g i) 64
    whole g = sum_cut 64 (λ i l. rw (gain_none (p i) (f i) (λ h. lt_irrefl i (omega (arith, (only i h).inside)))) (zero-mul (g i))) few

    sum_times : (g : ℕ → ℕ) → sum (λ i. gain (p i) (f i) * g i) P.n ≡ over p (λ i. f i * g i)
    sum_times g = whole g ∙ sum_same 64 (λ i l. gain_times (p i) (f i) (g i))

    sum_both : (q : ℕ → Bool) → sum (λ i. gain (p i) (f i) * bit (q i)) P.n ≡ over (both p q) f
    sum_both q = whole (λ i. bit (q i)) ∙ sum_same 64 (λ i l. gain_both (p i) (q i) (f i))

  module _ (slots : List Slot) (list : List ℕ) (needs limits : ℕ → Bool) (are-needs : OnlyAsked P true needs) (are-limits : OnlyAsked P false limits) where
    weighing_made : Weighing P (λ i. gain (needs i) (f i)) (λ j. gain (limits j) (f j))
    weighing_made = record { needs = λ i h. are-needs i (gain_passed (needs i) (f i) h); limits = λ j h. are-limits j (gain_passed (limits j) (f j) h) }

    serves_made : (c : ℕ) → serves P (λ i. gain (needs i) (f i)) (bit_at c) ≡ over (both needs (bit_at c)) f
    serves_made c = sum_both true needs are-needs (bit_at c)

    costs_made : (c : ℕ) → costs P (λ j. gain (limits j) (f j)) (bit_at c) ≡ over (but_not limits (bit_at c)) f
    costs_made c = sum_both false limits are-limits (λ j. not (bit_at c j))

    pub refuted_made : (r : ℕ) → 0 < r
        → ((c : ℕ) → In c list → up (over (both needs (bit_at c)) f) r ≤ over (but_not limits (bit_at c)) f / r)
        → over limits (λ j. f j * room P slots j) / r < up (over needs (λ i. f i * lack P slots i)) r
        → Refuted P slots list (λ i. gain (needs i) (f i)) (λ j. gain (limits j) (f j)) r
    refuted_made r divisor balanced gap = record {
      divisor = divisor;
      weighing = weighing_made;
      sets = λ c h. rw (serves_made c, costs_made c) (balanced c h);
      gap = rw (sum_times true needs are-needs (lack P slots), sum_times false limits are-limits (room P slots)) gap;
    }

    pub refuted_with_made : (s m : ℕ) → ((c : ℕ) → In c list → up (over (both needs (bit_at c)) f) 1 ≤ over (but_not limits (bit_at c)) f / 1)
        → over limits (λ j. f j * room P slots j) + m * over (both needs (bit_at s)) f < over needs (λ i. f i * lack P slots i) + m * over (but_not limits (bit_at s)) f
        → RefutedWith P slots list (λ i. gain (needs i) (f i)) (λ j. gain (limits j) (f j)) s m
    refuted_with_made s m balanced gap = record {
      weighing = weighing_made;
      sets = λ c h. rw (serves_made c, costs_made c) (omega (arith, balanced c h));
      gap = rw (sum_times true needs are-needs (lack P slots), sum_times false limits are-limits (room P slots), serves_made s, costs_made s) gap;
    }
