-- A need and a limit of a problem that exclude each other: two entries, and limits that allow none.
use mathlib.Core.Path.{◌≡◌, refl, sym, ap, ◌∙◌}
use mathlib.Core.Logic.{⊎_elim}
use mathlib.Core.Bool.{Bool, true, false, not, or-true}
use mathlib.Core.List.{List}
use Prim.Native.Nat.{ℕ, ◌-◌, ◌<◌}
use lib.Dec.{eqb}
use borrow.Author.Tests.{eqb-true, eq-eqb}
use Rattle.sets.specs.declared.Set.{Set}
use Rattle.sets.specs.Set.{member, nothing, added, removed, either, code, Within}
use Rattle.sets.specs.Word.{bit_at}
use Rattle.wide.specs.Wide.{wide_in}
use Rattle.tableau.specs.Wants.{wanted}
use Rattle.tableau.specs.Counting.{bound}
use Rattle.tableau.specs.Search.{Problem, asking, Asks, Fit, Solvable}
use Rattle.sets.proofs.Tests.{both_parts, both_made, one_of}
use Rattle.tableau.proofs.Bounds.{bound_made, bound_cases, bound_speaks}
use Rattle.tableau.proofs.Opposed.{pair_within, opposed}
use Rattle.counting.specs.declared.question.Question.{Question}
use Rattle.counting.specs.Question.{problem_of, Exceeds, Closed}
use Rattle.promises.specs.Promise.{Promising}
use Rattle.promises.specs.Listing.{NarrowedIs}
use Rattle.promises.proofs.Promises.{promise_below, promising_fewer}
use Rattle.satisfy.specs.Asking.{ProblemAsked}
use Rattle.satisfy.proofs.Largest.{either_left, either_right, either_made, narrowed_fewer}

pub within_removed : {p q : ℕ → Bool} (i : ℕ) → Within p q → Within (removed p i) q
within_removed {p} i within j h = within j (both_parts true (not (eqb j i)) (p j) h).1

module _ {P : Problem} {all : Set} {depth level : ℕ} {work : List ℕ} (asked : ProblemAsked P all depth level work) where
  all_asking : (i : ℕ) → member all i ≡ true → asking P i ≡ true
  all_asking i h = rw asked.all_asking at h

  pub chosen_below : {p : ℕ → Bool} → Within p (member all) → (i : ℕ) → p i ≡ true → i < P.n
  chosen_below within i h = promise_below P (asking P) (depth - 1) asked.promising i (all_asking i (within i h))

  pub pair_asked : (two s : Set) (base : ℕ → Bool) (i j : ℕ) → member two ≡ added (added nothing i) j → member s ≡ either (member two) base → Within base (member all)
      → member all i ≡ true → member all j ≡ true → Promising P (member s) (depth - 1)
  pair_asked two s base i j pair is within a b =
      promising_fewer asked.promising
      (rw is (either_made (member two) base (pair_within i j (asking P) pair (all_asking i a) (all_asking j b)) (λ k h. all_asking k (within k h))))

-- no successor keeps both promises beside those of limits that allow none
module _ (P : Problem) (two s : Set) (base : ℕ → Bool) (i j : ℕ) (pair : member two ≡ added (added nothing i) j) (is : member s ≡ either (member two) base)
    (none : (k : ℕ) → base k ≡ true → Closed P k) where
  pub pair_opposed : Exceeds P i j → (Fit P (code s) → ⊥) → Solvable P → ⊥
  unfolding member
  pair_opposed more unfit =
      opposed P (code s) i j (member two) pair (λ k. base k ≡ true) (λ k h. ((none k h).limit, (none k h).none))
      (λ k h. one_of (member two k) (base k) (ap (λ (p : ℕ → Bool). p k) (sym is) ∙ h)) unfit more.need more.limit more.more

-- The question of some entries of another one. Of these it has the same needs and limits, so a set of them that it may have the other may have too.
module _ (entries : List ℕ) {q p : Question} {s : Set} (narrow : NarrowedIs q s p) where
  wanted_narrowed : (b : Bool) (i : ℕ) → member s i ≡ true → wanted (member q.yes) (member q.no) b i ≡ true → wanted (member p.yes) (member p.no) b i ≡ true
  wanted_narrowed true i here want = rw narrow.yes (both_made true want here)
  wanted_narrowed false i here want = rw narrow.no (both_made true want here)

  bound_narrowed : (c : Bool) (i : ℕ) → member s i ≡ true → bound (member q.yes) (member q.no) (wide_in entries i) i c ≡ true
      → bound (member p.yes) (member p.no) (wide_in entries i) i c ≡ true
  bound_narrowed c i here bounds =
      let (b, want, kind) = bound_cases (member q.yes) (member q.no) (wide_in entries i) i c bounds in
      bound_made (member p.yes) (member p.no) (wide_in entries i) i b c (wanted_narrowed b i here want) kind

  bound_wider : (c : Bool) (i : ℕ) → bound (member p.yes) (member p.no) (wide_in entries i) i c ≡ true → bound (member q.yes) (member q.no) (wide_in entries i) i c ≡ true
  bound_wider c i bounds =
      let (b, want, kind) = bound_cases (member p.yes) (member p.no) (wide_in entries i) i c bounds in
      bound_made (member q.yes) (member q.no) (wide_in entries i) i b c (narrowed_fewer narrow b i want) kind

  asks_narrowed : (c : Bool) (i : ℕ) → member s i ≡ true → Asks (problem_of entries q) c i → Asks (problem_of entries p) c i
  asks_narrowed c i here asks = record { inside = asks.inside; bounds = bound_narrowed c i here asks.bounds; here = rw narrow.relation asks.here }

  speaks_wider : (i : ℕ) → asking (problem_of entries p) i ≡ true → asking (problem_of entries q) i ≡ true
  speaks_wider i h =
      let (name, asks) = both_parts true (eqb (wide_in entries i).name p.relation) _ h in
      let here : (wide_in entries i).name ≡ q.relation = eqb-true _ _ name ∙ narrow.relation in
      ⊎_elim (λ (n : bound (member p.yes) (member p.no) (wide_in entries i) i true ≡ true). bound_speaks (member q.yes) (member q.no) (wide_in entries i) i true (bound_wider true i n) here)
      (λ (l : bound (member p.yes) (member p.no) (wide_in entries i) i false ≡ true). bound_speaks (member q.yes) (member q.no) (wide_in entries i) i false (bound_wider false i l) here)
      (one_of (bound (member p.yes) (member p.no) (wide_in entries i) i true) _ asks)

  fit_narrowed : (b : ℕ) → Within (bit_at b) (member s) → Fit (problem_of entries p) b → Fit (problem_of entries q) b
  fit_narrowed b within fit = record {
    within = λ i h. speaks_wider i (fit.within i h);
    feasible = record {
      structure = fit.feasible.structure;
      world = fit.feasible.world;
      inside = fit.feasible.inside;
      keeps = λ c i h bounds. fit.feasible.keeps c i h (bound_narrowed c i (within i h) bounds);
    };
  }

  -- a need and a limit that exclude each other have no solution by themselves either, beside limits that allow none
  pub pair_alone : (two : Set) (base : ℕ → Bool) (i j : ℕ) → member two ≡ added (added nothing i) j → member s ≡ either (member two) base
      → ((k : ℕ) → base k ≡ true → Closed (problem_of entries q) k) → Exceeds (problem_of entries q) i j → (Fit (problem_of entries q) (code s) → ⊥) → Solvable (problem_of entries p) → ⊥
  unfolding member
  pair_alone two base i j pair is none more unfit =
      let first : member s i ≡ true = rw is (either_left (member two) base i (rw (pair, eq-eqb i i refl, or-true) refl)) in
      let second : member s j ≡ true = rw is (either_left (member two) base j (rw (pair, eq-eqb j j refl) refl)) in
      pair_opposed (problem_of entries p) two s base i j pair is
      (λ k h. record { limit = asks_narrowed false k (rw is (either_right (member two) base k h)) (none k h).limit; none = (none k h).none })
      (record { need = asks_narrowed true i first more.need; limit = asks_narrowed false j second more.limit; more = more.more })
      (λ fit. unfit (fit_narrowed (code s) (λ k h. h) fit))
