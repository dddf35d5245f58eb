-- `joined` meets its contract: a part is returned where it may stand for both.
use mathlib.Core.Path.{sym, ◌∙◌}
use Rattle.wide.proofs.Folding.{first_stands, second_stands, both_stand}
use Rattle.wide.proofs.fold.joined.Goals as goal
use Rattle.wide.proofs.fold.joined.Goals.{then-first-second, else-first-second}

pub returns-then-spare : goal.returns-then-spare
returns-then-spare c =
    second_stands c.requires.0 c.args.and c.requires.1 c.wide_at-e.ensures c.wide_at-left.ensures c.wide_at-right.ensures (c.spare.ensures c.if-spare.true)

pub returns-then-spare-2 : goal.returns-then-spare-2
returns-then-spare-2 c = elim c.if-first-second.branch [
  | then-first-second w ↦ both_stand c.requires.0 c.args.and c.requires.1 c.wide_at-e.ensures w.if-first-second.true
  | else-first-second w ↦
      first_stands c.requires.0 c.args.and c.requires.1 c.wide_at-e.ensures c.wide_at-left.ensures c.wide_at-right.ensures
      (w.spare-else-first-second.ensures (sym w.value-is ∙ c.if-spare-2.true))
]
