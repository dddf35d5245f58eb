use mathlib.Core.Path.{◌≡◌, ◌∙◌}
use Rattle.sets.specs.Set.{member}
use Rattle.listed.proofs.Codes.{code_listed}
use Rattle.listed.proofs.covered.Goals as goal

pub returns-then-inside : goal.returns-then-inside
unfolding member
returns-then-inside c so =
    let a = c.args in
    let read : _ ≡ _ = c.of_code.ensures ∙ c.item_or.ensures in
    (_, code_listed a.words.now a.at a.k _ c.loop-j-test.true, rw read at (c.inside.ensures c.if-inside.true))
