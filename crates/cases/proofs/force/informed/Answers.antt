-- `informed` meets its contract: what was learnt holds at every world that is as wanted.
use Rattle.wide.specs.Wide.{wide_in}
use Rattle.cases.proofs.Forcing.{learnt_ruled}
use Rattle.cases.proofs.force.informed.Goals as goal

pub returns-in_err-known : goal.returns-in_err-known
returns-in_err-known c =
    rw c.from_residual.ensures
    (λ s u inside m. c.in_err-known.ensures (wide_in c.args.entries.now) c.requires.1 (record { structure = s; world = u; inside = inside; meets = m }))

pub look-requires : goal.look-requires
look-requires c = (c.requires.0, learnt_ruled c.args.w (c.in_ok-known.ensures (wide_in c.args.entries.now) c.requires.1))
