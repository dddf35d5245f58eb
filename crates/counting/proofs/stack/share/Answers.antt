-- `share` meets its contract: the set is that of the code.
use mathlib.Core.Path.{◌≡◌}
use mathlib.Core.Bool.{true, false}
use Rattle.sets.specs.Word.{bit_at}
use Rattle.sets.specs.Set.{member}
use Rattle.counting.specs.Stack.{counts}
use Rattle.counting.proofs.stack.share.Goals as goal

pub returns-then-counts : goal.returns-then-counts
unfolding member
returns-then-counts c =
    let a = c.args in
    let counted : counts a.promised (bit_at a.code a.i) ≡ true = cc in
    rw counted

pub returns-else-counts : goal.returns-else-counts
unfolding member
returns-else-counts c =
    let a = c.args in
    let passed : counts a.promised (bit_at a.code a.i) ≡ false = cc in
    rw passed
