-- `search` meets its contract. The invariant: the search stands at the cursor, with no more to do than at first; each turn comes nearer to the end.
use mathlib.Core.Path.{◌≡◌}
use Prim.Native.Nat.{◌≤◌}
use lib.ListN.{length}
use Rattle.counting.specs.Question.{problem_of}
use Rattle.counting.specs.Search.{to_do, At}
use Rattle.counting.proofs.search.Given as goal

abbrev pub invariant-loop-answer : goal.invariant-loop-answer
invariant-loop-answer l =
    At (problem_of l.entries l.q) l.all l.words l.at × (to_do l.words l.at ≤ to_do l.initial.words l.initial.at) × (length l.words ≡ length l.initial.words)

abbrev pub decreases-loop-answer : goal.decreases-loop-answer
decreases-loop-answer l = to_do l.words l.at
