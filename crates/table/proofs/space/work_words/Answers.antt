-- `work_words` meets its contract: 64 entries of grade 255 at depth 63 need some eight million words, which fits.
use mathlib.Core.Path.{ap}
use Prim.Native.Nat.{ℕ, ◌*◌, ◌^◌, ◌≤◌, ◌<◌}
use native.Mathlib.Nat.{mul-le-mul, lt_of_le_of_lt}
use native.Mathlib.Omega.{arith}
use lib.Dec.{lit<}
use Rattle.table.specs.Entry.{entry_in, size}
use Rattle.table.specs.Space.{words_needed}
use Rattle.table.proofs.Grades.{grade_sum_le}
use Rattle.table.proofs.space.work_words.Goals as goal

small : (c : goal.After-grade_sum-g) → c.grade_sum-g.result ≤ 16384
small c =
    let table = c.args.table.now in
    omega (arith, grade_sum_le (entry_in table) (λ j. omega arith) (size table))

product : (a b : ℕ) → a ≤ 512 → b ≤ 16516 → a * b < 2 ^ 64
product a b p q = lt_of_le_of_lt (mul-le-mul p q) (lit< tt)

pub overflow_add-result-2 : goal.overflow_add-result-2
overflow_add-result-2 c = omega (arith, small c)

pub overflow_add-result-3 : goal.overflow_add-result-3
overflow_add-result-3 c = omega (arith, small c)

pub overflow_mul-result-3 : goal.overflow_mul-result-3
overflow_mul-result-3 c = record { fits = product _ _ (omega arith) (omega (arith, small c)) }

pub returns : goal.returns
returns c = ap (words_needed (size c.args.table.now) c.args.depth) c.grade_sum-g.ensures
