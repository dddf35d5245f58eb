use mathlib.Core.Path.{◌≡◌}
use native.Mathlib.Numerals.{add-one}
use native.Mathlib.Omega.{arith}
use borrow.Author.Rules.{rules}
use Rattle.table.specs.Entry.{entry_in}
use Rattle.table.specs.Space.{weight, sum_of_grades}
use Rattle.table.proofs.Grades.{weight_le, grade_sum_le}
use Rattle.table.proofs.space.grade_sum.Goals as goal

-- what the call says of entry i
here : (c : goal.After-weight_of-sum)
    → c.weight_of-sum.result ≡ weight (entry_in c.args.table.now c.loop-i.i)
here c = cc

pub overflow_add-sum : goal.overflow_add-sum
overflow_add-sum c =
    let entry = entry_in c.args.table.now in
    let i = c.loop-i.i in
    omega (arith, here c, weight_le (entry i) (omega arith), grade_sum_le entry (λ j. omega arith) i)

pub loop-i-preserved : goal.loop-i-preserved
unfolding sum_of_grades
loop-i-preserved c = (search rules, rw add-one (omega (arith, here c)))
