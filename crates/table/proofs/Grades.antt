-- The sum of grades stays small: with grades below g it is g at most for each entry.
use Prim.Native.Nat.{ℕ, zero, suc, ◌*◌, ◌<◌, ◌≤◌, zero-le}
use native.Mathlib.Nat.{mul-suc}
use native.Mathlib.Omega.{arith}
use Rattle.table.specs.declared.entry.Entry.{Entry}
use Rattle.table.specs.Space.{weight, entry_weight, sum_of_grades}
use Rattle.table.proofs.Cases.{by_kind}

module _ (g : ℕ) where
  pub weight_under : (e : Entry) → e.grade < g → weight e ≤ g
  weight_under e h =
      by_kind (λ k. entry_weight e.grade k ≤ g) zero-le zero-le zero-le zero-le zero-le zero-le (omega arith) (omega arith) (λ k. zero-le) e.kind

  pub grade_sum_under : (entry : ℕ → Entry) → ((i : ℕ) → (entry i).grade < g) → (n : ℕ) → sum_of_grades entry n ≤ g * n
  unfolding sum_of_grades
  grade_sum_under entry h zero = zero-le
  grade_sum_under entry h (suc n) = rw mul-suc (omega (arith, weight_under (entry n) (h n), grade_sum_under entry h n))

-- the grades of a packed table are bytes
pub weight_le : (e : Entry) → e.grade < 256 → weight e ≤ 256
weight_le = weight_under 256

pub grade_sum_le : (entry : ℕ → Entry) → ((i : ℕ) → (entry i).grade < 256) → (n : ℕ) → sum_of_grades entry n ≤ 256 * n
grade_sum_le = grade_sum_under 256
