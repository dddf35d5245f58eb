-- `asked` meets its contract: what is found passed the test.
use mathlib.Core.Path.{◌≡◌, sym, ◌∙◌}
use Prim.Native.Nat.{ℕ, ◌<◌}
use lib.ListN.{length}
use borrow.Author.Rules.{rules}
use Rattle.sets.specs.Set.{member}
use Rattle.wide.specs.Wide.{wide_in}
use Rattle.counting.specs.Question.{asks}
use Rattle.counting.proofs.Measures.{asks_yes}
use Rattle.counting.proofs.question.asked.Goals as goal

said : (c : goal.After-those) (i : ℕ) → i < length c.args.entries.now → member c.those.result i ≡ asks c.args.q (wide_in c.args.entries.now i) i c.args.need
said c i l = let h = c.those.ensures.passes i l in search rules

pub returns : goal.returns
returns c i h =
    let below = c.those.ensures.below i h in
    asks_yes c.args.entries.now c.args.q i c.args.need below (sym (said c i below) ∙ h)
