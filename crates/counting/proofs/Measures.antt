-- What the needs lack and the room that the limits leave, entry by entry; and the number of copies that both make of use.
use mathlib.Core.Path.{◌≡◌, refl, sym, ap, ◌∙◌}
use mathlib.Core.Logic.{◌⊎◌, inl, inr, ⊎_elim, by_cases}
use mathlib.Core.Bool.{Bool, true, false, cond, true≢false}
use mathlib.Core.List.{List}
use Prim.Native.Nat.{ℕ, suc, ◌+◌, ◌-◌, ◌<◌, ◌≤◌, min, max}
use native.Mathlib.Nat.{eq-or-lt_of_le, le_of_suc-le-suc, not-suc-le-zero, lt_irrefl}
use native.Mathlib.Decide.{dec_lt, ℕ_discrete}
use native.Mathlib.Omega.{arith}
use lib.Dec.{eqb}
use lib.ListN.{length}
use borrow.Author.Tests.{eqb-true, eq-eqb, ne_eqb, not-true, not-false}
use Rattle.sets.specs.Word.{bit_at}
use Rattle.sets.specs.declared.Set.{Set}
use Rattle.sets.specs.Set.{member, code}
use Rattle.table.specs.declared.entry.Entry.{Entry}
use Rattle.wide.specs.Wide.{wide_in}
use Rattle.semantics.specs.Answer.{Answers}
use Rattle.tableau.specs.Search.{Slot, Problem, asking, Asks, Lacks, Met, Kept, Useful}
use Rattle.sets.proofs.Tests.{both_parts, both_made}
use Rattle.tableau.proofs.Bounds.{bound_speaks}
use Rattle.counting.specs.declared.question.Question.{Question}
use Rattle.counting.specs.Question.{problem_of, asks, bound_of, Holds}
use Rattle.counting.specs.Stack.{counts, tally_of}
use Rattle.counting.specs.Bounds.{left_of, unasked, tighter, Attained, Left}

-- ---- the test of an entry

module _ (entries : List ℕ) (q : Question) (i : ℕ) (c : Bool) where
  pub asks_yes : i < length entries → asks q (wide_in entries i) i c ≡ true → Asks (problem_of entries q) c i
  asks_yes inside h =
      let (here, bounds) = both_parts true (eqb (wide_in entries i).name q.relation) _ h in
      record { inside = inside; bounds = bounds; here = eqb-true _ _ here }

  pub asks_no : asks q (wide_in entries i) i c ≡ false → Asks (problem_of entries q) c i → ⊥
  asks_no h a = true≢false (sym (both_made true (eq-eqb _ _ a.here) a.bounds) ∙ h)

-- the test of a set
pub counts_same : (c p : Bool) → counts c p ≡ true → p ≡ c
counts_same true p h = h
counts_same false p h = not-true p h

pub counts_other : (c p : Bool) → counts c p ≡ false → p ≡ c → ⊥
counts_other true p h e = true≢false (sym e ∙ h)
counts_other false p h e = true≢false (sym (not-false p h) ∙ e)

-- no need asks for more than 4096, and no limit allows more
few_of : (b : Bool) {x y : ℕ} → x ≤ 4096 → y ≤ 4096 → cond b x y ≤ 4096
few_of true hx hy = hx
few_of false hx hy = hy

pub bound_few : (c : Bool) (e : Entry) → e.grade < 4096 → bound_of c e ≤ 4096
bound_few c e h =
    let at_least_lem = eqb e.kind 6 in
    few_of c (few_of at_least_lem (omega arith) (omega arith)) (few_of at_least_lem (omega arith) (omega arith))

-- ---- entry by entry

-- what holds of two numbers holds of the tighter
of_tighter : (c : Bool) (Q : ℕ → Type 0) (l r : ℕ) → Q l → Q r → Q (tighter c l r)
of_tighter true Q l r at-l at-r =
    by_cases (dec_lt l r) (λ (less : l < r). let e : max l r ≡ r = omega arith in rw e at-r)
    (λ (g : ¬ (l < r)). let e : max l r ≡ l = omega arith in rw e at-l)
of_tighter false Q l r at-l at-r =
    by_cases (dec_lt l r) (λ (less : l < r). let e : min l r ≡ l = omega arith in rw e at-l)
    (λ (g : ¬ (l < r)). let e : min l r ≡ r = omega arith in rw e at-r)

module _ (bound n l r : ℕ) where
  holds_left : (c : Bool) → Holds c bound (n + l) → Holds c bound (n + tighter c l r)
  holds_left true h = omega arith
  holds_left false h = omega arith

  holds_right : (c : Bool) → Holds c bound (n + r) → Holds c bound (n + tighter c l r)
  holds_right true h = omega arith
  holds_right false h = omega arith

-- where a limit is kept, what is left is as much as fits; where a need lacks anything, too
module _ (bound n : ℕ) where
  holds_here : (c : Bool) → (c ≡ false → n ≤ bound) → Holds c bound (n + (bound - n))
  holds_here true kept = omega arith
  holds_here false kept = omega (arith, kept refl)

  exact_here : (c : Bool) → (c ≡ false → n ≤ bound) → (bound - n ≡ unasked c) ⊎ (n + (bound - n) ≡ bound)
  exact_here true kept = by_cases (dec_lt n bound) (λ (l : n < bound). inr (omega arith)) (λ (g : ¬ (n < bound)). inl (omega arith))
  exact_here false kept = inr (omega (arith, kept refl))

module _ (P : Problem) (slots : List Slot) (b : ℕ) (c : Bool) where
  left_none : {among : ℕ → Type 0} → ((i : ℕ) → among i → Asks P c i → bit_at b i ≡ c → ⊥) → Left P slots b c among (unasked c)
  left_none none = record { holds = λ i at a p. absurd (none i at a p); attained = inl refl; small = few_of c (omega arith) (omega arith) }

  pub left_start : Left P slots b c (λ j. j < 0) (unasked c)
  left_start = left_none (λ i l a p. not-suc-le-zero l)

  -- an entry that does not ask, or for which the set does not count
  pub left_not : (i : ℕ) → (Asks P c i → bit_at b i ≡ c → ⊥) → Left P slots b c (λ j. j ≡ i) (unasked c)
  left_not i none = left_none (λ j at. rw at none)

  pub left_here : (i : ℕ) → Asks P c i → bit_at b i ≡ c → (P.entry i).grade < 4096 → (c ≡ false → Kept P slots)
      → Left P slots b c (λ j. j ≡ i) (left_of c (P.entry i) i slots)
  left_here i a p few kept =
      let bound = bound_of c (P.entry i) in
      let n = tally_of c i slots in
      let fits : c ≡ false → n ≤ bound = λ limit. rw limit ((kept limit).kept i (rw limit at a)) in
      record {
        holds = λ j at a p. rw at (holds_here bound n c fits);
        attained = ⊎_elim
            (λ (none : bound - n ≡ unasked c). inl none)
            (λ (e : n + (bound - n) ≡ bound). inr (record { entry = i; asks = a; counts = p; exact = e }))
            (exact_here bound n c fits);
        small = omega (arith, bound_few c (P.entry i) few);
      }

  pub left_next : {i l r : ℕ} → Left P slots b c (λ j. j < i) l → Left P slots b c (λ j. j ≡ i) r → Left P slots b c (λ j. j < suc i) (tighter c l r)
  left_next {i} {l} {r} before here = record {
    holds = λ j below a p. ⊎_elim
        (λ (at : j ≡ i). holds_right (bound_of c (P.entry j)) (tally_of c j slots) l r c (here.holds j at a p))
        (λ (less : j < i). holds_left (bound_of c (P.entry j)) (tally_of c j slots) l r c (before.holds j less a p))
        (eq-or-lt_of_le (le_of_suc-le-suc below));
    attained = of_tighter c (λ (k : ℕ). (k ≡ unasked c) ⊎ Attained P slots b c k) l r before.attained here.attained;
    small = of_tighter c (λ (k : ℕ). k ≤ 4096) l r before.small here.small;
  }

-- ---- all entries together

module _ (P : Problem) (slots : List Slot) (b : ℕ) where
  lacks_made : {among : ℕ → Type 0} {l : ℕ} → Left P slots b true among l → 0 < l → Lacks P slots b
  lacks_made {l = l} lack pos =
      ⊎_elim
      (λ (none : l ≡ 0). absurd (lt_irrefl 0 (omega arith)))
      (λ (some : Attained P slots b true l). record { need = some.entry; asks = some.asks; promised = some.counts; unmet = omega (arith, some.exact) })
      lack.attained

  -- the smaller of both: where that is the room, a limit is full
  pub useful_made : {l r : ℕ} → Left P slots b true (λ j. j < P.n) l → Left P slots b false (λ j. j < P.n) r → Useful P slots b (min l r)
  useful_made {l} {r} lack leave = record {
    room = λ i a p. omega (arith, leave.holds i a.inside a p);
    enough = by_cases (dec_lt r l)
        (λ (less : r < l).
        let e : min l r ≡ r = omega arith in
        ⊎_elim
        (λ (most : r ≡ 4096). absurd (lt_irrefl r (omega (arith, lack.small))))
        (λ (f : Attained P slots b false r). inl (rw e (record { limit = f.entry; asks = f.asks; broken = f.counts; full = f.exact })))
        leave.attained)
        (λ (g : ¬ (r < l)). inr (λ i a p. omega (arith, lack.holds i a.inside a p)));
    serves = λ pos. lacks_made lack (omega arith);
    small = omega (arith, lack.small);
  }

  pub useful_none : Left P slots b true (λ j. j < P.n) 0 → Kept P slots → Useful P slots b 0
  useful_none lack kept = record {
    room = λ i a p. omega (arith, kept.kept i a);
    enough = inr (λ i a p. lack.holds i a.inside a p);
    serves = lacks_made lack;
    small = omega arith;
  }

-- every need is met exactly where nothing is lacking
pub met_answer : (P : Problem) (slots : List Slot) (all : Set) (r : ℕ) → member all ≡ asking P → Left P slots (code all) true (λ j. j < P.n) r
    → Answers (eqb r 0) (Met P slots)
unfolding member
met_answer P slots all r e lack =
    by_cases (ℕ_discrete r 0)
    (λ (none : r ≡ 0). rw (eq-eqb r 0 none) (record {
      met = λ i a.
          let promised = ap (λ (p : ℕ → Bool). p i) e ∙ bound_speaks P.yes P.no (P.entry i) i true a.bounds a.here in
          omega (arith, lack.holds i a.inside a promised);
    }))
    (λ (some : ¬ (r ≡ 0)). rw (ne_eqb r 0 some) (λ met.
    let l = lacks_made P slots (code all) lack (omega arith) in lt_irrefl 0 (omega (arith, l.unmet, met.met l.need l.asks))))
