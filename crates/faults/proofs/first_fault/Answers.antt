use mathlib.Core.Path.{◌≡◌, sym, ◌∙◌}
use borrow.Author.Rules.{rules}
use Rattle.std.specs.Prelude.{Err}
use Rattle.faults.proofs.Each.{none_passed, one_more, refused_here, all_passed}
use Rattle.faults.proofs.first_fault.Goals as goal

pub loop-i-init : goal.loop-i-init
loop-i-init g c v finds = none_passed v c.args.n

pub loop-i-preserved : goal.loop-i-preserved
loop-i-preserved g c v finds =
    one_more (c.loop-i.invariant v finds) (search rules) (finds c.loop-i.i c.check.result (search rules) c.check.ensures) c.in_ok-check.was

pub returns-in_err-check : goal.returns-in_err-check
returns-in_err-check g c v finds =
    let told : c.from_residual.result ≡ Err c.in_err-check.field-0.0 = search rules in
    told ∙ sym c.in_err-check.was ∙ refused_here (c.loop-i.invariant v finds) (search rules) (finds c.loop-i.i c.check.result (search rules) c.check.ensures) c.in_err-check.was

pub returns : goal.returns
returns g c v finds = all_passed (c.loop-i.invariant v finds) (search rules)
