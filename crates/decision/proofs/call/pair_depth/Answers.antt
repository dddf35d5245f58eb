-- `pair_depth` meets its contract: it reads the depths of all entries.
use native.Mathlib.Omega.{arith}
use Rattle.table.proofs.Accepted.{accepted_formed, accepted_small}
use Rattle.decision.proofs.call.pair_depth.Goals as goal

pub bounds-depth-a : goal.bounds-depth-a
bounds-depth-a c = let (ok, first, second) = c.requires in omega (arith, accepted_small _ ok, first)

pub bounds-depth-b : goal.bounds-depth-b
bounds-depth-b c = let (ok, first, second) = c.requires in omega (arith, accepted_small _ ok, second)

pub depths-depth-requires : goal.depths-depth-requires
depths-depth-requires c = let ok = c.requires.0 in (accepted_small _ ok, accepted_formed _ ok)
