-- `stand_in` meets its contract: a place behind the words stands for itself.
use mathlib.Core.Path.{ap}
use native.Mathlib.Omega.{arith}
use Rattle.wide.specs.Wide.{wide_of}
use Rattle.wide.proofs.Folding.{same_stands}
use Rattle.wide.proofs.fold.stand_in.Goals as goal

pub simpler-requires : goal.simpler-requires
simpler-requires c = λ i l. c.requires i (omega arith)

pub returns : goal.returns
returns c =
    let found = c.first_like.ensures in
    same_stands c.requires (omega arith) c.simpler.ensures found.0 (ap wide_of found.1)
