-- `undoubled` meets its contract: the part of the part is read.
use mathlib.Core.Path.{◌≡◌}
use borrow.Author.Rules.{rules}
use Rattle.wide.proofs.Folding.{double_stands}
use Rattle.wide.proofs.fold.undoubled.Goals as goal

pub returns-in-Some-Not : goal.returns-in-Some-Not
returns-in-Some-Not c =
    let inner : c.wide_at-inner.result.kind ≡ 3 = search rules in
    double_stands c.requires.0 c.wide_at-outer.ensures c.wide_at-inner.ensures c.requires.1 inner
