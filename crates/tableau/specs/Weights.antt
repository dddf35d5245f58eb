-- Refutation by weights: weights on needs and limits, and a divisor, that no copies of listed sets agree with, behind slots that are taken.
-- With weight 1 on one need and on one limit it is a pair that excludes each other; greater divisors also see that whole numbers do not fit.
-- With divisor 1 such weights exist wherever even fractions of copies do not fit (known as Farkas' lemma); that is not needed here.
use Rattle.std.specs.Prelude.{Bool, true, false, not, List, ℕ, ◌+◌, ◌-◌, ◌*◌, ◌/◌, ◌<◌, ◌≤◌}
use Rattle.semantics.specs.Count.{bit, sum}
use Rattle.sets.specs.Word.{bit_at}
use Rattle.tableau.specs.Counting.{lo, hi, served, spent}
use Rattle.tableau.specs.Search.{Slot, rows_of, Problem, Asks}
use Rattle.tableau.specs.Listed.{In}

-- x / r, rounded up
abbrev pub up : ℕ → ℕ → ℕ
up x r = (x + (r - 1)) / r

-- what a successor with these promises serves of the needs, by their weights; what it costs of the limits
abbrev pub serves : Problem → (ℕ → ℕ) → (ℕ → Bool) → ℕ
serves P a promises = sum (λ i. a i * bit (promises i)) P.n

abbrev pub costs : Problem → (ℕ → ℕ) → (ℕ → Bool) → ℕ
costs P b promises = sum (λ j. b j * bit (not (promises j))) P.n

-- what a need lacks behind the slots; what room they leave under a limit
abbrev pub lack : Problem → List Slot → ℕ → ℕ
lack P slots i = lo (P.entry i) - served i (rows_of slots)

abbrev pub room : Problem → List Slot → ℕ → ℕ
room P slots j = hi (P.entry j) - spent j (rows_of slots)

-- only needs have a weight a, only limits a weight b
pub record Weighing (P : Problem) (a b : ℕ → ℕ) : Type 0 where
  pub needs : (i : ℕ) → 0 < a i → Asks P true i
  pub limits : (i : ℕ) → 0 < b i → Asks P false i

-- By the weights, rounded by r, no listed set serves more than it costs, and more is lacking than there is room for (known as a Farkas certificate where
-- r is 1; to divide by r, and to round up what is served and down what is spent, is known as Chvátal-Gomory rounding).
pub record Refuted (P : Problem) (slots : List Slot) (list : List ℕ) (a b : ℕ → ℕ) (r : ℕ) : Type 0 where
  pub divisor : 0 < r
  pub weighing : Weighing P a b
  pub sets : (c : ℕ) → In c list → up (serves P a (bit_at c)) r ≤ costs P b (bit_at c) / r
  pub gap : sum (λ j. b j * room P slots j) P.n / r < up (sum (λ i. a i * lack P slots i) P.n) r

-- By the weights no listed set serves more than it costs, and besides m copies of the set s more is lacking than there is room for.
pub record RefutedWith (P : Problem) (slots : List Slot) (list : List ℕ) (a b : ℕ → ℕ) (s m : ℕ) : Type 0 where
  pub weighing : Weighing P a b
  pub sets : (c : ℕ) → In c list → serves P a (bit_at c) ≤ costs P b (bit_at c)
  pub gap : sum (λ j. b j * room P slots j) P.n + m * serves P a (bit_at s) < sum (λ i. a i * lack P slots i) P.n + m * costs P b (bit_at s)
