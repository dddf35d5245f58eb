-- `inside` meets its contract: nothing of the set is left without the other.
use mathlib.Core.Path.{sym, ◌∙◌}
use Rattle.listed.proofs.Codes.{nothing_left}
use Rattle.listed.proofs.inside.Goals as goal

pub returns : goal.returns
returns c so = nothing_left _ _ (sym c.minus.ensures ∙ c.is_empty.ensures.0 so)
