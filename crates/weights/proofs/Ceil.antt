-- A quotient rounded up, in the words of the library and in those of the refutations.
use Rattle.std.proofs.Common.{◌≡◌, ℕ, ◌+◌, ◌-◌, ◌*◌, ◌/◌, ◌%◌, ◌<◌, ◌≤◌, min, sym, arith}
use native.Mathlib.Nat.{div-eq_of_lt-le}
use mathlib.Core.Logic.{by_cases}
use native.Mathlib.Decide.{ℕ_discrete}
use Rattle.tableau.specs.Weights.{up}

pub up_ceil : (x r : ℕ) → 0 < r → x / r + min 1 (x % r) ≡ up x r
up_ceil x r pos = sym (div-eq_of_lt-le r low high)
  where
    low : (x / r + min 1 (x % r)) * r ≤ x + (r - 1)
    low = by_cases (ℕ_discrete (x % r) 0) (λ (e : x % r ≡ 0). rw e (omega arith)) (λ (ne : ¬ (x % r ≡ 0)). let one : min 1 (x % r) ≡ 1 = omega arith in rw one (omega arith))

    high : x + (r - 1) < (x / r + min 1 (x % r) + 1) * r
    high = by_cases (ℕ_discrete (x % r) 0) (λ (e : x % r ≡ 0). rw e (omega arith)) (λ (ne : ¬ (x % r ≡ 0)). let one : min 1 (x % r) ≡ 1 = omega arith in rw one (omega arith))
