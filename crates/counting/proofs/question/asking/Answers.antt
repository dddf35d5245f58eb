-- `asking` meets its contract: an entry speaks by the relation where it is a need or a limit.
use mathlib.Core.Path.{◌≡◌}
use mathlib.Core.Bool.{true, false, ◌||◌, and-or_distrib_left}
use Prim.Native.Nat.{ℕ, ◌<◌}
use native.Mathlib.Nat.{lt_irrefl}
use native.Mathlib.Omega.{arith}
use lib.ListN.{length}
use borrow.Author.Rules.{rules}
use Rattle.sets.specs.Set.{member}
use Rattle.wide.specs.Wide.{wide_in}
use Rattle.counting.specs.Question.{problem_of, asks}
use Rattle.counting.proofs.Asking.{untrue, upto_all}
use Rattle.counting.proofs.question.asking.Goals as goal

said : (c : goal.After-those) (i : ℕ) → i < length c.args.entries.now
    → member c.those.result i ≡ asks c.args.q (wide_in c.args.entries.now i) i true || asks c.args.q (wide_in c.args.entries.now i) i false
said c i l = let h = c.those.ensures.passes i l in search rules

pub returns : goal.returns
returns c =
    upto_all (problem_of c.args.entries.now c.args.q) c.requires
    (record {
      below = λ j l. rw and-or_distrib_left (said c j l);
      behind = λ j l. untrue _ (λ h. lt_irrefl j (omega (arith, c.those.ensures.below j h)));
    })
