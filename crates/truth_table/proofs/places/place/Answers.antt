-- `place` meets its contract: a row that has no place yet begins where the others end.
use mathlib.Core.Path.{◌≡◌, sym, ◌∙◌}
use mathlib.Core.Bool.{true, false}
use native.Mathlib.Omega.{arith}
use lib.ListN.{get_or}
use borrow.Author.Rules.{rules}
use Rattle.structure.specs.Masks.{place_of}
use Rattle.truth_table.proofs.Placing.{extended_new}
use Rattle.truth_table.proofs.places.place.Goals as goal
use Rattle.truth_table.proofs.places.place.Goals.{After-key-k}

-- what was looked up is the place of the row
known : (c : goal.After-key-k)
    → let a = c.args in
    get_or a.places.now c.key-k.result 0 ≡ place_of a.places.now a.relation a.name
known c = cc

pub returns-then-relation : goal.returns-then-relation
returns-then-relation c =
    let none = sym (known (goal.at.returns-then-relation c).After-key-k) ∙ c.if-places-k-ne0.false in (
      search rules,
      search rules,
      rw (c.key-k.ensures.0, c.if-relation.true)
          (extended_new _ _ _ c.requires.5 true c.args.name c.requires.0 (omega arith) (rw c.if-relation.true at none)),
    )

pub returns-else-relation : goal.returns-else-relation
returns-else-relation c =
    let none = sym (known (goal.at.returns-else-relation c).After-key-k) ∙ c.if-places-k-ne0.false in (
      search rules,
      search rules,
      rw (c.key-k.ensures.0, c.if-relation.false)
          (extended_new _ _ _ c.requires.5 false c.args.name c.requires.0 (omega arith) (rw c.if-relation.false at none)),
    )
