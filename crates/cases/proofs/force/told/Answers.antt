-- `told` meets its contract: what is wanted is so, what is ruled out is not, and a not is so where its part is not.
use mathlib.Core.Path.{refl}
use mathlib.Core.Bool.{not, not-not}
use Rattle.table.specs.declared.kind.Kind.{Kind}
use Rattle.wants.proofs.Reading.{kind_read}
use Rattle.wants.proofs.Told.{kind_is}
use Rattle.cases.proofs.Forcing.{not_shown, found}
use Rattle.cases.proofs.force.told.Goals as goal

pub returns-then-contains-2 : goal.returns-then-contains-2
returns-then-contains-2 c = λ s u inside m. m.as_wanted _ _ (found _ c.wanted-against.ensures c.contains-2.ensures c.if-contains-2.true)

pub returns-then-contains-5 : goal.returns-then-contains-5
returns-then-contains-5 c =
    let same = c.wide_at-e.ensures in
    not_shown c.args.w c.requires.0 _ (not c.args.truth) (not-not c.args.truth) _ c.requires.1
    (kind_read same (kind_is _ _ Kind.Not c.of.ensures.known c.of.ensures.unknown c.if-eq.ensures))
    (rw same at (found _ c.wanted-against.ensures c.contains-then-eq.ensures c.if-contains-5.true))

pub returns-then-contains-6 : goal.returns-then-contains-6
returns-then-contains-6 c =
    let same = c.wide_at-e.ensures in
    not_shown c.args.w c.requires.0 _ c.args.truth refl _ c.requires.1
    (kind_read same (kind_is _ _ Kind.Not c.of.ensures.known c.of.ensures.unknown c.if-eq.ensures))
    (rw same at (found _ c.wanted-so.ensures c.contains-then-eq-2.ensures c.if-contains-6.true))
