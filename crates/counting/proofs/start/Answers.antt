-- `start` meets its contract: the code of a set is below 2 ^ 64.
use native.Mathlib.Omega.{arith}
use Rattle.counting.proofs.Standing.{at_start}
use Rattle.counting.proofs.start.Goals as goal

pub returns : goal.returns
returns c P words = at_start P _ words (omega arith)
