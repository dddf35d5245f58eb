-- The functions that call each other: each meets its contract, and all calls end.
--
-- Why the answers are right, from the bottom up.
-- `deeper`: a successor keeps promises exactly where some world, one less deep, is as they want; `world` is asked for it. `keeps`: the same, or what the
-- memory says of it. All that is above asks about promises through `keeps` alone.
-- `grown`, `grown_by`, `column`, `seed`: only what `keeps` said yes to is in a set, so the set can be kept. `columns`, `extend`: so can each listed set.
-- `greedy`, `anew`: yes only with a stack that is a solution. `opposed`: yes only for a pair that excludes each other (Pairs).
-- `core_of`: what is left of a set that cannot be kept cannot be kept either (Cores). `largest`: so a set that can be kept leaves out a member of the core; the
-- branches, one a member, list all the largest sets (Largest).
-- `by_list`: the listed sets stand for all, so a solution is among them or there is none. `refute`: some needs and limits have none, so all have none.
-- `by_all`, `by_few`, `by_more`, `lists`: yes and no as those say, or nothing. `probe`: the search that asks `keeps` as it goes is complete by itself.
-- `solve`: the first of all these that says something. `one_met`: the same, or what the memory says, since a relation has a solution exactly where some
-- world is as its needs and limits alone want (Alone).
-- `all_met`: yes, and every relation has a solution; no, and one has none, so no world is as wanted. `leaf`: with nothing pending, solutions for all
-- make a world. `world`: a world that is as wanted is so in one of the two cases of a split; `Remaining` (Worlds) says what is still open in the loop.
--
-- Why the calls end: each has a smaller measure, a number. A depth counts 1,024, and within a depth the members have an order, from below: deeper 2,
-- keeps 3, then what asks `keeps` (4 to 9), `largest` by the promises that are free (5 to 69), by_list 401, refute 402, by_all and by_few 403, lists,
-- solve, one_met, all_met, leaf (404 to 408), and world at 409 and its bound (at most 64). A member calls only those below it, but for `largest` and
-- `world`, which call themselves with a free promise or a bound less, and `deeper`, which calls `world` with a depth less: 409 and 64 are less than 1,024.
-- Loops have measures of their own: the members of a set that are left, the room of a list, the potential of a search.
--
-- What all share: the memory is true before and after (`Remembers`), whatever was remembered or forgotten between; the lent words stay as many
-- (`shape_of-work`); and those that work below a stack or a list, `opposed`, `core_of`, `keeps`, `deeper` and what grows a set, leave the words of the
-- level, where these lie, as they were (`same`).
--
-- How it is laid out. This file has the measures of all members by name, and then the invariants and the measures of their loops. Answers.antt has a
-- section a member, in the order of the source: facts that it uses more than once, and the answers to its goals. `f-requires` is what is asked before a
-- call of f (of a member: that its measure is below t, that of the caller, and what it requires), `returns` what is promised at an exit, `init`,
-- `preserved` and `smaller` of a loop are the invariant at the start and after a turn, and the measure. An answer is handed c, what is known at its
-- place. Goals that the check closes by itself have no answer.
use Prim.Native.Nat.{◌+◌, ◌-◌, ◌*◌}
use mathlib.Core.Path.{◌≡◌}
use lib.ListN.{length, take}
use Rattle.semantics.specs.Count.{count}
use Rattle.sets.specs.Set.{member, Within}
use Rattle.wide.specs.Wide.{wide_in}
use Rattle.counting.specs.Question.{problem_of}
use Rattle.counting.specs.Search.{At, to_do}
use Rattle.cases.specs.Levels.{Remembers, list_room}
use Rattle.satisfy.specs.Asking.{Solving}
use Rattle.satisfy.proofs.Worlds.{Remaining}
use Rattle.promises.specs.Listing.{Lists, FitList}
use Rattle.satisfy.proofs.Cores.{Shrunk}
use Rattle.satisfy.proofs.Largest.{Branching}
use Rattle.tableau.specs.Search.{asking}
use Rattle.table.specs.Space.{sum_of_grades}
use Rattle.satisfy.specs.Greedy.{FitIfAny, Taken}
use Rattle.satisfy.proofs.world.+world.Given as goal

-- ---- the measures: by depth; within a world by the bound on what is pending, and in a list by the promises that are free
abbrev pub decreases-all_met : goal.decreases-all_met
decreases-all_met l = l.level.depth * 1024 + 407

abbrev pub decreases-anew : goal.decreases-anew
decreases-anew l = l.level.depth * 1024 + 7

abbrev pub decreases-by_all : goal.decreases-by_all
decreases-by_all l = l.level.depth * 1024 + 403

abbrev pub decreases-by_few : goal.decreases-by_few
decreases-by_few l = l.level.depth * 1024 + 403

abbrev pub decreases-by_list : goal.decreases-by_list
decreases-by_list l = l.level.depth * 1024 + 401

abbrev pub decreases-by_more : goal.decreases-by_more
decreases-by_more l = l.level.depth * 1024 + 9

abbrev pub decreases-column : goal.decreases-column
decreases-column l = l.level.depth * 1024 + 6

abbrev pub decreases-columns : goal.decreases-columns
decreases-columns l = l.level.depth * 1024 + 7

abbrev pub decreases-core_of : goal.decreases-core_of
decreases-core_of l = l.level.depth * 1024 + 4

abbrev pub decreases-deeper : goal.decreases-deeper
decreases-deeper l = l.level.depth * 1024 + 2

abbrev pub decreases-extend : goal.decreases-extend
decreases-extend l = l.level.depth * 1024 + 8

abbrev pub decreases-greedy : goal.decreases-greedy
decreases-greedy l = l.level.depth * 1024 + 6

abbrev pub decreases-grown : goal.decreases-grown
decreases-grown l = l.level.depth * 1024 + 5

abbrev pub decreases-grown_by : goal.decreases-grown_by
decreases-grown_by l = l.level.depth * 1024 + 4

abbrev pub decreases-keeps : goal.decreases-keeps
decreases-keeps l = l.level.depth * 1024 + 3

abbrev pub decreases-largest : goal.decreases-largest
decreases-largest l = l.level.depth * 1024 + (count (member l.free) 64 + 5)

abbrev pub decreases-leaf : goal.decreases-leaf
decreases-leaf l = l.level.depth * 1024 + 408

abbrev pub decreases-lists : goal.decreases-lists
decreases-lists l = l.level.depth * 1024 + 404

abbrev pub decreases-one_met : goal.decreases-one_met
decreases-one_met l = l.level.depth * 1024 + 406

abbrev pub decreases-opposed : goal.decreases-opposed
decreases-opposed l = l.level.depth * 1024 + 4

abbrev pub decreases-probe : goal.decreases-probe
decreases-probe l = l.level.depth * 1024 + 4

abbrev pub decreases-refute : goal.decreases-refute
decreases-refute l = l.level.depth * 1024 + 402

abbrev pub decreases-seed : goal.decreases-seed
decreases-seed l = l.level.depth * 1024 + 7

abbrev pub decreases-solve : goal.decreases-solve
decreases-solve l = l.level.depth * 1024 + 405

abbrev pub decreases-world : goal.decreases-world
decreases-world l = l.level.depth * 1024 + (l.bound + 409)

abbrev pub invariant-world-loop-u : goal.invariant-world-loop-u
invariant-world-loop-u l =
    Remaining (wide_in l.entries) (length l.entries) l.level.depth l.bound l.initial.v l.v l.top × (length l.work ≡ length l.initial.work) × Remembers (wide_in l.entries) l.level.depth l.level.size l.work

abbrev pub decreases-world-loop-u : goal.decreases-world-loop-u
decreases-world-loop-u l = l.top

abbrev pub invariant-all_met-loop-i : goal.invariant-all_met-loop-i
invariant-all_met-loop-i l = Solving (wide_in l.entries) l.w (member l.rest) × (length l.work ≡ length l.initial.work) × Remembers (wide_in l.entries) l.level.depth l.level.size l.work

abbrev pub decreases-all_met-loop-i : goal.decreases-all_met-loop-i
decreases-all_met-loop-i l = count (member l.rest) (length l.entries)

abbrev pub invariant-anew-loop-i : goal.invariant-anew-loop-i
invariant-anew-loop-i l =
    Within (member l.rest) (member l.all) × (length l.work ≡ length l.initial.work) × Remembers (wide_in l.entries) l.level.depth l.level.size l.work

abbrev pub decreases-anew-loop-i : goal.decreases-anew-loop-i
decreases-anew-loop-i l = count (member l.rest) 64

abbrev pub invariant-extend-loop-i : goal.invariant-extend-loop-i
invariant-extend-loop-i l =
    Within (member l.rest) (member l.all) × (length l.work ≡ length l.initial.work) × FitList (problem_of l.entries l.q) l.listed l.level.depth l.level.size l.work

abbrev pub decreases-extend-loop-i : goal.decreases-extend-loop-i
decreases-extend-loop-i l = count (member l.rest) 64

abbrev pub invariant-columns-loop-r : goal.invariant-columns-loop-r
invariant-columns-loop-r l =
    Lists (problem_of l.entries l.q) l.k l.level.size l.work × (length l.work ≡ length l.initial.work) × Remembers (wide_in l.entries) l.level.depth l.level.size l.work

abbrev pub decreases-columns-loop-r : goal.decreases-columns-loop-r
decreases-columns-loop-r l = list_room (length l.entries) - l.k

abbrev pub invariant-column-loop-q : goal.invariant-column-loop-q
invariant-column-loop-q l =
    Within (member l.set) (asking (problem_of l.entries l.q)) × FitIfAny (problem_of l.entries l.q) l.set × Within (member l.rest) (member l.all) × (length l.work ≡ length l.initial.work) × (take l.level.size l.work ≡ take l.level.size l.initial.work) × Remembers (wide_in l.entries) l.level.depth l.level.size l.work

abbrev pub decreases-column-loop-q : goal.decreases-column-loop-q
decreases-column-loop-q l = count (member l.rest) 64

abbrev pub invariant-greedy-loop-q : goal.invariant-greedy-loop-q
invariant-greedy-loop-q l =
    Taken (problem_of l.entries l.q) l.slots l.work × (length l.work ≡ length l.initial.work) × Remembers (wide_in l.entries) l.level.depth l.level.size l.work

abbrev pub decreases-greedy-loop-q : goal.decreases-greedy-loop-q
decreases-greedy-loop-q l = sum_of_grades (wide_in l.entries) (length l.entries) - l.slots

abbrev pub invariant-grown_by-loop-i : goal.invariant-grown_by-loop-i
invariant-grown_by-loop-i l =
    Within (member l.set) (asking (problem_of l.entries l.q)) × Within (member l.rest) (asking (problem_of l.entries l.q)) × FitIfAny (problem_of l.entries l.q) l.set × (length l.work ≡ length l.initial.work) × (take l.level.size l.work ≡ take l.level.size l.initial.work) × Remembers (wide_in l.entries) l.level.depth l.level.size l.work

abbrev pub decreases-grown_by-loop-i : goal.decreases-grown_by-loop-i
decreases-grown_by-loop-i l = count (member l.rest) 64

abbrev pub invariant-probe-loop-asked : goal.invariant-probe-loop-asked
invariant-probe-loop-asked l =
    At (problem_of l.entries l.q) l.all (take l.level.size l.work) l.at × (length l.work ≡ length l.initial.work) × Remembers (wide_in l.entries) l.level.depth l.level.size l.work

abbrev pub decreases-probe-loop-asked : goal.decreases-probe-loop-asked
decreases-probe-loop-asked l = to_do (take l.level.size l.work) l.at

abbrev pub invariant-largest-loop-i : goal.invariant-largest-loop-i
invariant-largest-loop-i l =
    Branching (problem_of l.entries l.q) (member l.initial.had) (member l.initial.left) l.k l.level.depth l.level.size l.initial.work (member l.core) (member l.had) (member l.left) l.listed l.work

abbrev pub decreases-largest-loop-i : goal.decreases-largest-loop-i
decreases-largest-loop-i l = count (member l.core) 64

abbrev pub invariant-core_of-loop-i : goal.invariant-core_of-loop-i
invariant-core_of-loop-i l =
    Shrunk (problem_of l.entries l.q) (member l.low) (member l.initial.core) l.level.depth l.level.size l.initial.work (member l.core) (member l.rest) l.work

abbrev pub decreases-core_of-loop-i : goal.decreases-core_of-loop-i
decreases-core_of-loop-i l = count (member l.rest) 64

abbrev pub invariant-opposed-loop-i : goal.invariant-opposed-loop-i
invariant-opposed-loop-i l =
    Within (member l.needs) (member l.all) × Within (member l.limits) (member l.all) × (length l.work ≡ length l.initial.work) × (take l.level.size l.work ≡ take l.level.size l.initial.work) × Remembers (wide_in l.entries) l.level.depth l.level.size l.work

abbrev pub decreases-opposed-loop-i : goal.decreases-opposed-loop-i
decreases-opposed-loop-i l = count (member l.needs) (length l.entries) * 65 + count (member l.limits) (length l.entries)
