use native.Mathlib.Omega.{arith}
use Rattle.truth_table.proofs.Plan.fill_words.Goals as goal

pub bounds-words-i : goal.bounds-words-i
bounds-words-i c = omega (arith, c.loop-i-test.true, c.loop-i.invariant.2, c.requires.2, c.requires.0.space)
