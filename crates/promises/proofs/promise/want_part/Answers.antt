-- `want_part` meets its contract: the part is wanted true for a need, and false for a limit.
use mathlib.Core.Bool.{true, false}
use lib.ListN.{length}
use Rattle.wide.specs.Wide.{wide_in}
use Rattle.counting.specs.Question.{asks}
use Rattle.std.specs.Prelude.{Some, None}
use Rattle.promises.specs.Promise.{Held, only_if}
use Rattle.promises.proofs.Promises.{held_told, held_both, held_clash}
use Rattle.promises.proofs.promise.want_part.Goals as goal
use Rattle.promises.proofs.promise.want_part.Goals.{In_ok-u}

-- what the need comes to
one : (c : goal.In_ok-u)
    → Held (wide_in c.args.entries.now) (length c.args.entries.now)
    (only_if (asks c.args.q (wide_in c.args.entries.now c.args.i) c.args.i true) true)
    (wide_in c.args.entries.now c.args.i).first
    c.args.v c.in_ok-u.u
one c =
    let a = c.args in
    held_told (wide_in a.entries.now) (length a.entries.now) _ a.v true
    (rw c.wide_at-e.ensures at c.asks-need.ensures)
    (Some c.in_ok-u.u)
    (rw c.wide_at-e.ensures at c.in_ok-u.ensures)

pub returns : goal.returns
returns c =
    let a = c.args in
    held_both _ _ _ _ _ (one (goal.at.returns c).In_ok-u) c.want_if-2.result
    (held_told (wide_in a.entries.now) (length a.entries.now) _ _ false
    (rw c.wide_at-e.ensures at c.asks-limit.ensures)
    c.want_if-2.result
    (rw c.wide_at-e.ensures at c.want_if-2.ensures))

pub returns-in_err-u : goal.returns-in_err-u
returns-in_err-u c =
    let a = c.args in
    rw c.from_residual.ensures
    (held_clash (wide_in a.entries.now) (length a.entries.now) _ a.v _
    (held_told (wide_in a.entries.now) (length a.entries.now) _ a.v true (rw c.wide_at-e.ensures at c.asks-need.ensures) None
    (rw c.wide_at-e.ensures at c.in_err-u.ensures)))
