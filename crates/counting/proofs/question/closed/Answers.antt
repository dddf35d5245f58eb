-- `closed` meets its contract: what is found is a limit, and allows none.
use mathlib.Core.Path.{◌≡◌, sym, ◌∙◌}
use mathlib.Core.Bool.{true, false, ◌&&◌}
use Prim.Native.Nat.{ℕ, ◌<◌}
use lib.Dec.{eqb}
use lib.ListN.{length}
use borrow.Author.Rules.{rules}
use borrow.Author.Tests.{eqb-true}
use Rattle.sets.specs.Set.{member}
use Rattle.sets.proofs.Tests.{both_parts}
use Rattle.wide.specs.Wide.{wide_in}
use Rattle.tableau.specs.Counting.{hi}
use Rattle.counting.specs.Question.{asks}
use Rattle.counting.proofs.Measures.{asks_yes}
use Rattle.counting.proofs.question.closed.Goals as goal

said : (c : goal.After-those) (i : ℕ) → i < length c.args.entries.now
    → member c.those.result i ≡ asks c.args.q (wide_in c.args.entries.now i) i false && eqb (hi (wide_in c.args.entries.now i)) 0
said c i l = let h = c.those.ensures.passes i l in search rules

pub returns : goal.returns
returns c i h =
    let below = c.those.ensures.below i h in
    let (asked, none) = both_parts true _ _ (sym (said c i below) ∙ h) in
    record { limit = asks_yes c.args.entries.now c.args.q i false below asked; none = eqb-true _ 0 none }
