-- A need and a limit that exclude each other: the need asks for more than the limit allows, and no successor keeps both promises beside
-- those of limits that allow none. Why there is no solution then: every successor keeps the latter, so every one that promises the need
-- counts against the limit.
use mathlib.Core.Path.{◌≡◌, refl, sym, ap, ◌∙◌}
use mathlib.Core.Logic.{◌⊎◌, ⊎_elim, by_cases}
use mathlib.Core.Bool.{Bool, true, false, not, not-eq-not, false≢true}
use mathlib.Core.List.{List, [], ◌∷◌}
use Prim.Native.Nat.{ℕ, ◌<◌, ◌≤◌}
use native.Mathlib.Nat.{le_refl}
use native.Mathlib.Decide.{dec_lt}
use native.Mathlib.Omega.{arith}
use lib.Dec.{eqb}
use borrow.Author.Tests.{eqb-true}
use Rattle.semantics.specs.Count.{gain}
use Rattle.sets.specs.Set.{nothing, added}
use Rattle.sets.specs.Word.{bit_at}
use Rattle.tableau.specs.Counting.{Row, total, All, served, spent, lo, hi}
use Rattle.tableau.specs.Search.{Problem, Asks, FitRow, Fit, Solvable}
use Rattle.sets.proofs.Tests.{one_of}
use Rattle.tableau.proofs.Promises.{feasible_fewer}

-- a row that promises i does not promise j
abbrev Apart : ℕ → ℕ → Row → Type 0
Apart i j row = row.promises i ≡ true → row.promises j ≡ false

-- a row with copies promises every limit of a kind
abbrev Promises : (ℕ → Type 0) → Row → Type 0
Promises Q row = 0 < row.copies → (k : ℕ) → Q k → row.promises k ≡ true

gain_apart : (a b : Bool) (n : ℕ) → (a ≡ true → b ≡ false) → gain a n ≤ gain (not b) n
gain_apart true b n h = rw (h refl) (le_refl n)
gain_apart false b n h = omega arith

gain_most : (b : Bool) (n : ℕ) → gain b n ≤ n
gain_most true n = le_refl n
gain_most false n = omega arith

gain_promised : (b : Bool) (n : ℕ) → 0 < n → gain (not b) n ≤ 0 → b ≡ true
gain_promised true n some none = refl
gain_promised false n some none = absurd (omega (arith, some, none))

-- what nothing is spent of is promised
all_promised : (Q : ℕ → Type 0) (rows : List Row) → ((k : ℕ) → Q k → spent k rows ≤ 0) → All (Promises Q) rows
unfolding total
all_promised Q [] none = tt
all_promised Q (row ∷ rows) none = (
  λ some k q. gain_promised (row.promises k) row.copies some (omega (arith, none k q)),
  all_promised Q rows (λ k q. omega (arith, none k q)),
)

-- what holds of two numbers holds of every one of the pair
pub pair_within : (i j : ℕ) {two : ℕ → Bool} (p : ℕ → Bool) → two ≡ added (added nothing i) j → p i ≡ true → p j ≡ true → (k : ℕ) → two k ≡ true → p k ≡ true
pair_within i j p is a b k h =
    ⊎_elim (λ (e : eqb k j ≡ true). rw (eqb-true k j e) b)
    (λ (e : added nothing i k ≡ true). ⊎_elim (λ (d : eqb k i ≡ true). rw (eqb-true k i d) a) (λ (d : false ≡ true). absurd (false≢true d)) (one_of (eqb k i) false e))
    (one_of (eqb k j) _ (ap (λ (t : ℕ → Bool). t k) (sym is) ∙ h))

-- the set with the code b has two members, and besides only limits that allow none
module _ (P : Problem) (b i j : ℕ) (two : ℕ → Bool) (pair : two ≡ added (added nothing i) j) (Q : ℕ → Type 0) (none : (k : ℕ) → Q k → Asks P false k × (hi (P.entry k) ≡ 0))
    (members : (k : ℕ) → bit_at b k ≡ true → (two k ≡ true) ⊎ Q k) (unfit : Fit P b → ⊥) where
  row_apart : (row : Row) → FitRow P row → ((k : ℕ) → Q k → row.promises k ≡ true) → Apart i j row
  row_apart row fit kept p = (not-eq-not {b = false}).0 λ q.
      let all : (k : ℕ) → bit_at b k ≡ true → row.promises k ≡ true =
      λ k h. ⊎_elim (λ (e : two k ≡ true). pair_within i j row.promises pair p q k e) (λ (c : Q k). kept k c) (members k h) in
      unfit (record { within = λ k h. fit.within k (all k h); feasible = feasible_fewer all fit.feasible })

  row_served : (row : Row) → FitRow P row → Promises Q row → gain (row.promises i) row.copies ≤ gain (not (row.promises j)) row.copies
  row_served row fit kept =
      by_cases (dec_lt 0 row.copies)
      (λ (some : 0 < row.copies). gain_apart (row.promises i) (row.promises j) row.copies (row_apart row fit (kept some)))
      (λ (zero : ¬ (0 < row.copies)). omega (arith, gain_most (row.promises i) row.copies))

  served_spent : (rows : List Row) → All (FitRow P) rows → All (Promises Q) rows → served i rows ≤ spent j rows
  unfolding total
  served_spent [] fit kept = omega arith
  served_spent (row ∷ rows) fit kept = omega (arith, row_served row fit.0 kept.0, served_spent rows fit.1 kept.1)

  pub opposed : Asks P true i → Asks P false j → hi (P.entry j) < lo (P.entry i) → Solvable P → ⊥
  opposed need limit more s =
      let kept = all_promised Q s.rows (λ k q. let (asks, zero) = none k q in omega (arith, s.kept k asks.bounds asks.here, zero)) in
      omega (arith, s.met i need.bounds need.here, s.kept j limit.bounds limit.here, served_spent s.rows s.usable kept, more)
