-- The answers to the goals of the functions that call each other, a section a function, in the order of the source. Why they are right stands in
-- Invariants.antt.
use Prim.Native.Nat.{ℕ, suc, ◌-◌, ◌<◌, ◌≤◌}
use mathlib.Core.Bool.{Bool, true, false≢true, false}
use borrow.Rule.Slice.PartMut.{take_put}
use mathlib.Core.Path.{◌≡◌, refl, sym, ap, ◌∙◌}
use mathlib.Core.List.{◌++◌, List}
use native.Mathlib.Omega.{arith}
use lib.ListN.{length, take, drop}
use lib.Seq.{length_front, length-take-le, take_at}
use borrow.Author.Rules.{rules}
use Rattle.sets.specs.Set.{member, Within, either, nothing, code}
use Rattle.sets.specs.Word.{Greatest}
use Rattle.wide.specs.Wide.{wide_in}
use Rattle.counting.specs.Question.{problem_of, Closed}
use Rattle.counting.specs.Search.{AskedIs, Nearer, to_do, trying}
use Rattle.cases.specs.World.{SatW, Branch}
use Rattle.cases.specs.Levels.{Roomy, Remembers, list_room}
use Rattle.promises.specs.Promise.{Promised}
use Rattle.promises.specs.Relation.{counting}
use Rattle.promises.proofs.Promises.{promising_fewer, promise_below}
use Rattle.satisfy.specs.Asking.{CountAsked}
use Rattle.satisfy.proofs.Worlds.{solving_none, solving_next, solving_done, solved_world, unsolved, room_below, room_level, Remaining, Fails, remaining_answer, remaining_forced, remaining_second, remaining_none, case_fails, split_below}
use Rattle.satisfy.proofs.Pairs.{within_removed, chosen_below, pair_asked, pair_opposed, pair_alone}
use Rattle.semantics.proofs.Count.{count_le}
use Rattle.sets.proofs.Members.{count_removed}
use Rattle.cases.proofs.Recalling.{room_reckoned, memory_below, memory_above, memory_over, next_same}
use Rattle.satisfy.proofs.Calls.{ready_leaf, ready_bounded, promised_fit, counting_below, counting_deep, question_small, question_promising, question_positive, count_done, room_kept, length_behind, own_solution, own_no_solution, own_asking, promised_unfit, within_same, problem_kept, small_of, select_kept, grow_asked}
use Rattle.tableau.proofs.Together.{together}
use Rattle.promises.specs.Listing.{list_of}
use Rattle.satisfy.specs.Largest.{ListingIs}
use Rattle.satisfy.proofs.Cores.{core_whole, core_left}
use Rattle.satisfy.proofs.Largest.{either_fewer, either_right, code_above, added_within, removed_within, unfit_unkept, room_placed, lists_kept, listing_same, listing_from, listing_also, reaches_none, reaches_known, listing_covers, lists_none, listed_new, guess_memory, parts_within, parts_inside, either_left, narrowed_fewer, narrowed_solvable, branching_done, branching_small, branching_fewer, branching_promising, branching_next, room_list}
use Rattle.tableau.specs.Search.{asking, Fit}
use Rattle.sets.proofs.Tests.{both_parts}
use mathlib.Core.Logic.{⊎_elim}
use mathlib.Core.Logic.◌⊎◌.{inl, inr}
use native.Mathlib.Numerals.{add-one}
use Rattle.table.specs.Space.{sum_of_grades}
use Rattle.tableau.proofs.Ends.{found}
use Rattle.counting.specs.Stack.{Few}
use Rattle.counting.proofs.Standing.{serving_few}
use Rattle.satisfy.specs.Greedy.{Taken}
use Rattle.satisfy.proofs.Greedy.{promising_of, taken_none, taken_below, taken_kept, taken_room, taken_more, fit_useful, memory_put}
use Rattle.tableau.specs.Wants.{wanted}
use Rattle.promises.proofs.Parts.{parts_fit, fit_parts}
use Rattle.satisfy.proofs.Alone.{relation_recalled, relation_told}
use Rattle.cases.proofs.Splitting.{ready_wider}
use Rattle.std.specs.Prelude.{Result, Ok, Err}
use Rattle.promises.specs.declared.listing.Full.{Full}
use Rattle.satisfy.proofs.world.+world.Goals as goal
use Rattle.satisfy.proofs.world.+world.Goals.{all_met-After-asking-all, all_met-In-Some, anew-In-Some, by_list-After-minus, column-In-Some, columns-After-also, deeper-In-Some, extend-In-Some, greedy-After-grown-set, greedy-After-intersection-full, greedy-At-loop-q, greedy-Else-m-eq0, grown_by-After-with-more, grown_by-In-Some, largest-At-loop-i, largest-In-Some, leaf-Else-not-all_met, opposed-After-intersection-base, opposed-In-Some, opposed-In-Some-highest, probe-After-keeps, probe-After-search, probe-After-skip-at, probe-After-take-at, probe-In-Ask, refute-After-narrowed-p, world-In-Some-highest, world-In-Some, world-In_Some-one, world-Joined-branch, world-Joined-else-top-eq-ALL, world-in_Some-one+else-world, world-in_default-one, world-else-top-eq-ALL-via-then-top-eq-ALL+else-not-all_met, world-else-top-eq-ALL-via-else-top-eq-ALL}

-- ---- world

pub world-returns-in_default : goal.world-returns-in_default
world-returns-in_default t c =
    (λ sat. let at = c.loop-u.invariant.0.forth sat in (rw c.in_default.is at c.force.ensures) at.structure at.world at.inside at.meets, c.loop-u.invariant.2)

-- what is left, with what follows of it
left_forced : (t : ℕ) (c : goal.world-In-Some t)
    → Remaining (wide_in c.args.entries.now) (length c.args.entries.now) c.args.level.depth c.args.bound c.args.w c.in-Some.u c.loop-u.top
left_forced t c = remaining_forced c.loop-u.invariant.0 (c.in-Some.ensures)

relations_asked : (t : ℕ) (c : goal.world-In-Some t)
    → CountAsked (wide_in c.args.entries.now) (length c.args.entries.now) c.in-Some.u c.args.level.depth c.args.level.size c.loop-u.work
relations_asked t c =
    let asked = c.requires in
    let inv = c.loop-u.invariant in
    record { ready = ready_wider (left_forced t c).ready (omega (arith, (left_forced t c).small, asked.small)); room = room_kept inv.1 asked.room; memory = inv.2 }

pub world-leaf-requires : goal.world-leaf-requires
world-leaf-requires t c =
    (omega (arith, c.decreases), record { count = relations_asked t (goal.at.world-leaf-requires t c).In-Some; none = rw c.in_default-highest.is at c.highest.ensures })

pub world-shape_of-work-in_default-highest : goal.world-shape_of-work-in_default-highest
world-shape_of-work-in_default-highest t c = c.leaf.auto.work ∙ c.loop-u.invariant.1

pub world-returns-in_default-highest : goal.world-returns-in_default-highest
world-returns-in_default-highest t c = (remaining_answer (left_forced t (goal.at.world-returns-in_default-highest t c).In-Some) c.leaf.result c.leaf.ensures.0, c.leaf.ensures.1)

-- the entry to split
top_pending : (t : ℕ) (c : goal.world-In-Some-highest t) → Greatest (member c.in-Some.u.pending) c.in-Some-highest.d
top_pending t c = c.in-Some-highest.ensures

pub world-all_met-requires : goal.world-all_met-requires
world-all_met-requires t c = (omega (arith, c.decreases), relations_asked t (goal.at.world-all_met-requires t c).In-Some)

pub world-shape_of-work-then-not-all_met : goal.world-shape_of-work-then-not-all_met
world-shape_of-work-then-not-all_met t c = c.all_met.auto.work ∙ c.loop-u.invariant.1

pub world-returns-then-not-all_met : goal.world-returns-then-not-all_met
world-returns-then-not-all_met t c = (remaining_answer (left_forced t (goal.at.world-returns-then-not-all_met t c).In-Some) false (rw c.if-not-all_met.true at c.all_met.ensures.0), c.all_met.ensures.1)

-- the words where the relations were asked, and where they were not
words_asked : (t : ℕ) (c : goal.world-Joined-else-top-eq-ALL t)
    → (length c.else-top-eq-ALL.work ≡ length c.args.work.now) × Remembers (wide_in c.args.entries.now) c.args.level.depth c.args.level.size c.else-top-eq-ALL.work
words_asked t c =
    elim c.else-top-eq-ALL.branch [
      | world-else-top-eq-ALL-via-then-top-eq-ALL+else-not-all_met w ↦ rw w.work-is (w.all_met.auto.work ∙ c.loop-u.invariant.1, w.all_met.ensures.1)
      | world-else-top-eq-ALL-via-else-top-eq-ALL w ↦ rw w.work-is (c.loop-u.invariant.1, c.loop-u.invariant.2)
    ]

pub world-branch-one-requires : goal.world-branch-one-requires
world-branch-one-requires t c = ((relations_asked t (goal.at.world-branch-one-requires t c).In-Some).ready, top_pending t (goal.at.world-branch-one-requires t c).In-Some-highest)

case_one : (t : ℕ) (c : goal.world-In_Some-one t)
    → Branch (wide_in c.args.entries.now) (length c.args.entries.now) true c.in-Some-highest.d c.in-Some.u c.args.level.depth c.in_Some-one.one
case_one t c = rw c.in_Some-one.is at c.branch-one.ensures

pub world-world-requires : goal.world-world-requires
world-world-requires t c =
    let asked = c.requires in
    let left = left_forced t (goal.at.world-world-requires t c).In-Some in
    let words = words_asked t (goal.at.world-world-requires t c).Joined-else-top-eq-ALL in
    let below = split_below left asked.small (top_pending t (goal.at.world-world-requires t c).In-Some-highest) in (
      omega (arith, c.decreases, left.small, below),
      record { ready = (case_one t (goal.at.world-world-requires t c).In_Some-one).ready; small = omega (arith, below, left.small, asked.small); room = room_kept words.0 asked.room; memory = words.1 },
    )

pub world-shape_of-work-then-world : goal.world-shape_of-work-then-world
world-shape_of-work-then-world t c = c.world.auto.work ∙ (words_asked t (goal.at.world-shape_of-work-then-world t c).Joined-else-top-eq-ALL).0

pub world-returns-then-world : goal.world-returns-then-world
world-returns-then-world t c = ((left_forced t (goal.at.world-returns-then-world t c).In-Some).back ((case_one t (goal.at.world-returns-then-world t c).In_Some-one).sound (rw c.if-world.true at c.world.ensures.0)), c.world.ensures.1)

-- the first case fails, whether it was looked into or clashed at once
case_failed : (t : ℕ) (c : goal.world-Joined-branch t)
    → (length c.else-top-eq-ALL.work ≡ length c.args.work.now) × Remembers (wide_in c.args.entries.now) c.args.level.depth c.args.level.size c.else-top-eq-ALL.work
    → Fails (wide_in c.args.entries.now) c.in-Some.u c.in-Some-highest.d true × (length c.match-branch.work ≡ length c.args.work.now) × Remembers (wide_in c.args.entries.now) c.args.level.depth c.args.level.size c.match-branch.work
case_failed t c words =
    elim c.match-branch.branch [
      | world-in_Some-one+else-world w ↦ rw w.work-is (case_fails true w.in_Some-one.ensures (rw w.if-world.false at w.world.ensures.0), w.world.auto.work ∙ words.0, w.world.ensures.1)
      | world-in_default-one w ↦ rw w.work-is (λ s u inside. w.in_default-one.ensures s u, words.0, words.1)
    ]

pub world-branch-two-requires : goal.world-branch-two-requires
world-branch-two-requires t c = ((relations_asked t (goal.at.world-branch-two-requires t c).In-Some).ready, top_pending t (goal.at.world-branch-two-requires t c).In-Some-highest)

pub world-shape_of-work-in_default-two : goal.world-shape_of-work-in_default-two
world-shape_of-work-in_default-two t c = (case_failed t (goal.at.world-shape_of-work-in_default-two t c).Joined-branch (words_asked t (goal.at.world-shape_of-work-in_default-two t c).Joined-else-top-eq-ALL)).1

pub world-returns-in_default-two : goal.world-returns-in_default-two
world-returns-in_default-two t c =
    (remaining_none (left_forced t (goal.at.world-returns-in_default-two t c).In-Some) c.requires.small (top_pending t (goal.at.world-returns-in_default-two t c).In-Some-highest) (case_failed t (goal.at.world-returns-in_default-two t c).Joined-branch (words_asked t (goal.at.world-returns-in_default-two t c).Joined-else-top-eq-ALL)).0 (λ s u inside. (rw c.in_default-two.is at c.branch-two.ensures) s u), (case_failed t (goal.at.world-returns-in_default-two t c).Joined-branch (words_asked t (goal.at.world-returns-in_default-two t c).Joined-else-top-eq-ALL)).2)

pub world-loop-u-smaller : goal.world-loop-u-smaller
world-loop-u-smaller t c = split_below (left_forced t (goal.at.world-loop-u-smaller t c).In-Some) c.requires.small (top_pending t (goal.at.world-loop-u-smaller t c).In-Some-highest)

pub world-loop-u-preserved : goal.world-loop-u-preserved
world-loop-u-preserved t c =
    let failed = case_failed t (goal.at.world-loop-u-preserved t c).Joined-branch (words_asked t (goal.at.world-loop-u-preserved t c).Joined-else-top-eq-ALL) in
    (remaining_second (left_forced t (goal.at.world-loop-u-preserved t c).In-Some) c.requires.small (top_pending t (goal.at.world-loop-u-preserved t c).In-Some-highest) failed.0 (rw c.in_Some-two.is at c.branch-two.ensures), failed.1, failed.2)

pub world-force-requires : goal.world-force-requires
world-force-requires t c = search (rules, room_kept)

-- ---- leaf

-- the world that is found
leaf_found : (t : ℕ) (c : goal.leaf-Else-not-all_met t)
    → SatW (wide_in c.args.entries.now) c.args.w
leaf_found t c =
    let asked = c.requires in
    solved_world _ _ (ready_leaf asked.count.ready asked.none) true (rw c.if-not-all_met.false at c.all_met.ensures.0)

pub leaf-returns-then-not-all_met : goal.leaf-returns-then-not-all_met
leaf-returns-then-not-all_met t c = (rw c.if-not-all_met.true at c.all_met.ensures.0, c.all_met.ensures.1)

pub leaf-returns : goal.leaf-returns
leaf-returns t c = (leaf_found t (goal.at.leaf-returns t c).Else-not-all_met, c.learn_world.ensures)

pub leaf-learn_world-requires : goal.leaf-learn_world-requires
leaf-learn_world-requires t c = search (rules, room_kept, leaf_found t (goal.at.leaf-learn_world-requires t c).Else-not-all_met)

-- ---- all_met

pub all_met-returns : goal.all_met-returns
all_met-returns t c = (solving_done _ _ c.loop-i.invariant.0 c.in_default.ensures, c.loop-i.invariant.2)

-- an entry whose relation is still to be solved
chosen : (t : ℕ) (c : goal.all_met-In-Some t)
    → member c.loop-i.rest c.in-Some.i ≡ true
chosen t c = (c.in-Some.ensures).here

counts : (t : ℕ) (c : goal.all_met-In-Some t)
    → counting c.args.w (wide_in c.args.entries.now c.in-Some.i) c.in-Some.i ≡ true
counts t c = c.loop-i.invariant.0.within _ (chosen t c)

pub all_met-one_met-requires : goal.all_met-one_met-requires
all_met-one_met-requires t c =
    let deep = counting_deep c.requires.ready _ (counts t (goal.at.all_met-one_met-requires t c).In-Some) in (
      omega (arith, c.decreases),
      record {
        problem = record {
          promising = question_promising c.requires.ready c.question_of-q.ensures deep;
          deep = deep;
          all_asking = c.asking-all.ensures;
          room = room_kept c.loop-i.invariant.1 c.requires.room;
          memory = c.loop-i.invariant.2;
        };
        positive = question_positive c.requires.ready c.question_of-q.ensures;
      },
    )

pub all_met-shape_of-work-then-not-one_met : goal.all_met-shape_of-work-then-not-one_met
all_met-shape_of-work-then-not-one_met t c = c.one_met.auto.work ∙ c.loop-i.invariant.1

pub all_met-returns-then-not-one_met : goal.all_met-returns-then-not-one_met
all_met-returns-then-not-one_met t c = (unsolved _ _ c.requires.ready _ (own_no_solution c.question_of-q.ensures (rw c.if-not-one_met.true at c.one_met.ensures.0)), c.one_met.ensures.1)

-- the entry is one of those that its relation asks for
all_has : (t : ℕ) (c : goal.all_met-After-asking-all t)
    → member c.asking-all.result c.in-Some.i ≡ true
all_has t c = ap (λ (p : ℕ → Bool). p c.in-Some.i) c.asking-all.ensures ∙ own_asking c.question_of-q.ensures _ (c.loop-i.invariant.0.within _ c.in-Some.ensures.here)

pub all_met-loop-i-smaller : goal.all_met-loop-i-smaller
all_met-loop-i-smaller t c =
    let i = (goal.at.all_met-loop-i-smaller t c).In-Some in
    rw c.minus-rest.ensures
    (count_done _ (member c.asking-all.result) (chosen t i) (all_has t (goal.at.all_met-loop-i-smaller t c).After-asking-all) (counting_below c.requires.ready _ (counts t i)))

pub all_met-loop-i-preserved : goal.all_met-loop-i-preserved
all_met-loop-i-preserved t c =
    let own = c.question_of-q.ensures in (
      rw c.minus-rest.ensures
          (solving_next _ _ _ c.loop-i.invariant.0 (own_solution own (rw c.if-not-one_met.false at c.one_met.ensures.0)) _ (rw (own.yes, own.no, own.relation) at c.asking-all.ensures)),
      c.one_met.auto.work ∙ c.loop-i.invariant.1,
      c.one_met.ensures.1,
    )

pub all_met-counted-rest-requires : goal.all_met-counted-rest-requires
all_met-counted-rest-requires t c = search (rules, ready_bounded)

pub all_met-loop-i-init : goal.all_met-loop-i-init
all_met-loop-i-init t c = search (rules, solving_none)

pub all_met-asking-all-requires : goal.all_met-asking-all-requires
all_met-asking-all-requires t c = search (rules, question_small)

-- ---- one_met

pub one_met-memory-from-requires : goal.one_met-memory-from-requires
one_met-memory-from-requires t c = room_reckoned c.requires.problem.room (omega arith)

pub one_met-returns-in-Some : goal.one_met-returns-in-Some
one_met-returns-in-Some t c =
    let a = c.args in
    let asked = c.requires in (
      relation_recalled a.entries.now asked c.narrowed-alone.ensures c.in-Some.known (c.in-Some.ensures (wide_in a.entries.now) (rw c.memory-from.ensures asked.problem.memory)),
      asked.problem.memory,
    )

pub one_met-returns : goal.one_met-returns
one_met-returns t c =
    let a = c.args in
    let told = relation_told a.entries.now c.requires c.narrowed-alone.ensures c.solve-found.result c.solve-found.ensures.0 in (
      c.solve-found.ensures.0,
      rw c.memory-from.ensures at (c.remember.ensures.memory (wide_in a.entries.now) (rw c.memory-from.ensures c.solve-found.ensures.1) told),
    )

-- ---- solve

pub solve-keeps-requires : goal.solve-keeps-requires
solve-keeps-requires t c =
    let asked = c.requires in
    (omega (arith, c.decreases), record { promising = rw asked.all_asking asked.promising; deep = asked.deep; room = asked.room; memory = asked.memory })

pub solve-returns-then-keeps : goal.solve-returns-then-keeps
solve-returns-then-keeps t c =
    let a = c.args in
    let asked = c.requires in (
      together (problem_of a.entries.now a.q) asked.promising.below _ (code_above a.all asked.all_asking) (rw c.if-keeps.true at c.keeps.ensures.answers),
      c.keeps.ensures.memory,
    )

pub solve-shape_of-work-then-opposed : goal.solve-shape_of-work-then-opposed
solve-shape_of-work-then-opposed t c = c.opposed.auto.work ∙ c.keeps.auto.work

pub solve-shape_of-work-then-greedy : goal.solve-shape_of-work-then-greedy
solve-shape_of-work-then-greedy t c = c.greedy.auto.work ∙ c.opposed.auto.work ∙ c.keeps.auto.work

pub solve-shape_of-work-in-Yes : goal.solve-shape_of-work-in-Yes
solve-shape_of-work-in-Yes t c = c.lists.auto.work ∙ c.greedy.auto.work ∙ c.opposed.auto.work ∙ c.keeps.auto.work

pub solve-greedy-requires : goal.solve-greedy-requires
solve-greedy-requires t c =
    let asked = c.requires in
    (omega (arith, c.decreases), problem_kept asked (c.opposed.auto.work ∙ c.keeps.auto.work) c.opposed.ensures.memory)

pub solve-shape_of-work-in-No : goal.solve-shape_of-work-in-No
solve-shape_of-work-in-No t c = c.lists.auto.work ∙ c.greedy.auto.work ∙ c.opposed.auto.work ∙ c.keeps.auto.work

pub solve-lists-requires : goal.solve-lists-requires
solve-lists-requires t c =
    let asked = c.requires in
    (omega (arith, c.decreases), problem_kept asked (c.greedy.auto.work ∙ c.opposed.auto.work ∙ c.keeps.auto.work) c.greedy.ensures.memory)

pub solve-probe-requires : goal.solve-probe-requires
solve-probe-requires t c =
    let asked = c.requires in
    (omega (arith, c.decreases), problem_kept asked (c.lists.auto.work ∙ c.greedy.auto.work ∙ c.opposed.auto.work ∙ c.keeps.auto.work) c.lists.ensures.1)

pub solve-shape_of-work-in-Nothing : goal.solve-shape_of-work-in-Nothing
solve-shape_of-work-in-Nothing t c = c.probe.auto.work ∙ c.lists.auto.work ∙ c.greedy.auto.work ∙ c.opposed.auto.work ∙ c.keeps.auto.work

pub solve-opposed-requires : goal.solve-opposed-requires
solve-opposed-requires t c = search (rules, problem_kept)

pub solve-returns-then-opposed : goal.solve-returns-then-opposed
solve-returns-then-opposed t c = (c.opposed.ensures.answers c.if-opposed.true, c.opposed.ensures.memory)

pub solve-returns-then-greedy : goal.solve-returns-then-greedy
solve-returns-then-greedy t c = (c.greedy.ensures.answers c.if-greedy.true, c.greedy.ensures.memory)

pub solve-returns-in-Yes : goal.solve-returns-in-Yes
solve-returns-in-Yes t c = c.in-Yes.ensures

pub solve-returns-in-No : goal.solve-returns-in-No
solve-returns-in-No t c = c.in-No.ensures

-- ---- lists

pub lists-shape_of-work-in-Nothing : goal.lists-shape_of-work-in-Nothing
lists-shape_of-work-in-Nothing t c = c.by_few.auto.work ∙ c.by_all.auto.work

pub lists-shape_of-work-in-Nothing-by_few : goal.lists-shape_of-work-in-Nothing-by_few
lists-shape_of-work-in-Nothing-by_few t c = c.by_all-in-Nothing-by_few.auto.work ∙ c.by_few-else-is_short.auto.work

pub lists-by_few-requires : goal.lists-by_few-requires
lists-by_few-requires t c = search (rules, problem_kept)

pub lists-by_all-requires-in-Nothing-by_few : goal.lists-by_all-requires-in-Nothing-by_few
lists-by_all-requires-in-Nothing-by_few t c = search (rules, problem_kept)

-- ---- by_all

pub by_all-shape_of-work-then-not-is_empty : goal.by_all-shape_of-work-then-not-is_empty
by_all-shape_of-work-then-not-is_empty t c = c.refute.auto.work ∙ c.by_list.auto.work

pub by_all-returns-then-not-is_empty : goal.by_all-returns-then-not-is_empty
by_all-returns-then-not-is_empty t c = (c.in-No.ensures.0, c.refute.ensures.1)

pub by_all-returns-else-not-is_empty : goal.by_all-returns-else-not-is_empty
by_all-returns-else-not-is_empty t c = c.in-No.ensures

pub by_all-refute-requires : goal.by_all-refute-requires
by_all-refute-requires t c = search (rules, room_kept)

-- ---- by_list

-- the limits that allow none, and the rest: all of the needs and limits, in two parts
base_closed : (t : ℕ) (c : goal.by_list-After-minus t) → (i : ℕ) → member c.intersection-base.result i ≡ true → Closed (problem_of c.args.entries.now c.args.q) i
base_closed t c i h = c.closed.ensures i (both_parts true (member c.closed.result i) _ (rw c.intersection-base.ensures at h)).0

base_all : (t : ℕ) (c : goal.by_list-After-minus t) → Within (member c.intersection-base.result) (member c.args.all)
base_all t c i h = (both_parts true (member c.closed.result i) _ (rw c.intersection-base.ensures at h)).1

parts_all : (t : ℕ) (c : goal.by_list-After-minus t) → Within (either (member c.intersection-base.result) (member c.minus.result)) (asking (problem_of c.args.entries.now c.args.q))
parts_all t c = within_same c.requires.all_asking (rw c.minus.ensures (parts_inside (member c.args.all) (member c.intersection-base.result) (base_all t c)))

all_parts : (t : ℕ) (c : goal.by_list-After-minus t) → Within (asking (problem_of c.args.entries.now c.args.q)) (either (member c.intersection-base.result) (member c.minus.result))
all_parts t c i h = rw c.minus.ensures (parts_within (member c.args.all) (member c.intersection-base.result) i (ap (λ (p : ℕ → Bool). p i) c.requires.all_asking ∙ h))

pub by_list-largest-requires : goal.by_list-largest-requires
by_list-largest-requires t c =
    let a = c.args in
    let asked = c.requires in (
      omega (arith, c.decreases, count_le (member c.minus.result) 64),
      record {
        promising = promising_fewer asked.promising (parts_all t (goal.at.by_list-largest-requires t c).After-minus);
        deep = asked.deep;
        room = asked.room;
        memory = asked.memory;
        lists = lists_none (problem_of a.entries.now a.q) a.level.size a.work.now;
      },
    )

pub by_list-selected-requires : goal.by_list-selected-requires
by_list-selected-requires t c =
    let a = c.args in
    let asked = c.requires in
    let listed = c.in-Ok.ensures in
    select_kept asked c.largest.auto.work listed.memory listed.lists

pub by_list-shape_of-work-then-selected : goal.by_list-shape_of-work-then-selected
by_list-shape_of-work-then-selected t c = c.selected.auto.work ∙ c.largest.auto.work

pub by_list-shape_of-work-then-selected-2 : goal.by_list-shape_of-work-then-selected-2
by_list-shape_of-work-then-selected-2 t c = c.selected-in-Err.auto.work ∙ c.largest.auto.work

pub by_list-shape_of-work-else-selected : goal.by_list-shape_of-work-else-selected
by_list-shape_of-work-else-selected t c = c.selected.auto.work ∙ c.largest.auto.work

pub by_list-returns-else-selected : goal.by_list-returns-else-selected
by_list-returns-else-selected t c =
    let a = c.args in
    let listed = c.in-Ok.ensures in
    let covers = listing_covers (problem_of a.entries.now a.q) (member c.intersection-base.result) (member c.minus.result) a.work.now c.largest.new.work (base_closed t (goal.at.by_list-returns-else-selected t c).After-minus) (all_parts t (goal.at.by_list-returns-else-selected t c).After-minus) listed in
    (rw c.if-selected.false at c.selected.ensures.0 covers, c.selected.ensures.1)

pub by_list-selected-requires-in-Err : goal.by_list-selected-requires-in-Err
by_list-selected-requires-in-Err t c =
    let asked = c.requires in
    let listed = c.in-Err.ensures in
    select_kept asked c.largest.auto.work listed.memory listed.lists

pub by_list-shape_of-work-else-selected-2 : goal.by_list-shape_of-work-else-selected-2
by_list-shape_of-work-else-selected-2 t c = c.selected-in-Err.auto.work ∙ c.largest.auto.work

pub by_list-blamed_behind-requires : goal.by_list-blamed_behind-requires
by_list-blamed_behind-requires t c =
    let a = c.args in
    let asked = c.requires in (
      small_of asked.promising,
      room_placed (problem_of a.entries.now a.q) asked.promising.few (room_kept (c.selected.auto.work ∙ c.largest.auto.work) asked.room) (c.in-Ok.ensures).lists.some,
    )

pub by_list-returns-then-selected : goal.by_list-returns-then-selected
by_list-returns-then-selected t c = (rw c.if-selected.true at c.selected.ensures.0, c.selected.ensures.1)

pub by_list-returns-then-selected-2 : goal.by_list-returns-then-selected-2
by_list-returns-then-selected-2 t c = (rw c.if-selected-2.true at c.selected-in-Err.ensures.0, c.selected-in-Err.ensures.1)

-- ---- by_few

pub by_few-selected-requires : goal.by_few-selected-requires
by_few-selected-requires t c =
    let asked = c.requires in
    let guess = c.in-Among.ensures in
    select_kept asked c.columns.auto.work guess.memory guess.lists

pub by_few-shape_of-work-then-selected : goal.by_few-shape_of-work-then-selected
by_few-shape_of-work-then-selected t c = c.selected.auto.work ∙ c.columns.auto.work

pub by_few-shape_of-work-then-refute : goal.by_few-shape_of-work-then-refute
by_few-shape_of-work-then-refute t c = c.refute.auto.work ∙ c.columns.auto.work

pub by_few-shape_of-work-else-selected : goal.by_few-shape_of-work-else-selected
by_few-shape_of-work-else-selected t c = c.by_more.auto.work ∙ c.selected.auto.work ∙ c.columns.auto.work

pub by_few-shape_of-work-else-refute : goal.by_few-shape_of-work-else-refute
by_few-shape_of-work-else-refute t c = c.refute.auto.work ∙ c.columns.auto.work

pub by_few-refute-requires : goal.by_few-refute-requires
by_few-refute-requires t c =
    let asked = c.requires in (
      omega (arith, c.decreases),
      record {
        promising = asked.promising;
        deep = asked.deep;
        room = room_kept c.columns.auto.work asked.room;
        memory = c.in-Without.ensures;
      },
    )

pub by_few-by_more-requires : goal.by_few-by_more-requires
by_few-by_more-requires t c =
    let asked = c.requires in (
      omega (arith, c.decreases),
      problem_kept asked (c.selected.auto.work ∙ c.columns.auto.work) c.selected.ensures.1,
    )

pub by_few-returns-then-selected : goal.by_few-returns-then-selected
by_few-returns-then-selected t c = (rw c.if-selected.true at c.selected.ensures.0, c.selected.ensures.1)

pub by_few-returns-then-refute : goal.by_few-returns-then-refute
by_few-returns-then-refute t c = (c.refute.ensures.0 c.if-refute.true, c.refute.ensures.1)

pub by_few-returns-in-Nothing : goal.by_few-returns-in-Nothing
by_few-returns-in-Nothing t c = (tt, c.in-Nothing.ensures)

-- ---- by_more

pub by_more-extend-listed-requires : goal.by_more-extend-listed-requires
by_more-extend-listed-requires t c =
    let asked = c.requires in
    let guess = c.in-Among.ensures in (
      omega (arith, c.decreases),
      record {
        problem = problem_kept asked c.columns.auto.work guess.memory;
        lists = guess.lists;
      },
    )

pub by_more-selected-requires : goal.by_more-selected-requires
by_more-selected-requires t c =
    let asked = c.requires in
    select_kept asked (c.extend-listed.auto.work ∙ c.columns.auto.work) c.extend-listed.ensures.memory c.extend-listed.ensures.lists

pub by_more-shape_of-work-then-selected : goal.by_more-shape_of-work-then-selected
by_more-shape_of-work-then-selected t c = c.selected.auto.work ∙ c.extend-listed.auto.work ∙ c.columns.auto.work

pub by_more-shape_of-work-then-anew : goal.by_more-shape_of-work-then-anew
by_more-shape_of-work-then-anew t c = c.anew.auto.work ∙ c.selected.auto.work ∙ c.extend-listed.auto.work ∙ c.columns.auto.work

pub by_more-anew-requires : goal.by_more-anew-requires
by_more-anew-requires t c =
    let asked = c.requires in (
      omega (arith, c.decreases),
      problem_kept asked (c.selected.auto.work ∙ c.extend-listed.auto.work ∙ c.columns.auto.work) c.selected.ensures.1,
    )

pub by_more-shape_of-work : goal.by_more-shape_of-work
by_more-shape_of-work t c = c.anew.auto.work ∙ c.selected.auto.work ∙ c.extend-listed.auto.work ∙ c.columns.auto.work

pub by_more-returns-in_default : goal.by_more-returns-in_default
by_more-returns-in_default t c = search (rules, guess_memory)

pub by_more-returns-then-selected : goal.by_more-returns-then-selected
by_more-returns-then-selected t c = (rw c.if-selected.true at c.selected.ensures.0, c.selected.ensures.1)

pub by_more-returns-then-anew : goal.by_more-returns-then-anew
by_more-returns-then-anew t c = (c.anew.ensures.answers c.if-anew.true, c.anew.ensures.memory)

-- ---- anew

-- the entry whose order is next
order_in : (t : ℕ) (c : goal.anew-In-Some t)
    → member c.loop-i.rest c.in-Some.i ≡ true
order_in t c = (c.in-Some.ensures).here

-- it is an entry
order_small : (t : ℕ) (c : goal.anew-In-Some t)
    → c.in-Some.i < 64
order_small t c =
    let asked = c.requires in
    omega (arith, chosen_below asked c.loop-i.invariant.0 _ (order_in t c), asked.promising.few)

pub anew-returns : goal.anew-returns
anew-returns t c = record { answers = λ e. absurd (false≢true e); memory = c.loop-i.invariant.2 }

pub anew-shape_of-work-then-greedy : goal.anew-shape_of-work-then-greedy
anew-shape_of-work-then-greedy t c = c.greedy.auto.work ∙ c.loop-i.invariant.1

pub anew-returns-then-greedy : goal.anew-returns-then-greedy
anew-returns-then-greedy t c = record { answers = λ e. c.greedy.ensures.answers c.if-greedy.true; memory = c.greedy.ensures.memory }

pub anew-loop-i-smaller : goal.anew-loop-i-smaller
anew-loop-i-smaller t c = rw c.without-rest.ensures (count_removed (member c.loop-i.rest) 64 (order_in t (goal.at.anew-loop-i-smaller t c).In-Some) (order_small t (goal.at.anew-loop-i-smaller t c).In-Some))

pub anew-loop-i-preserved : goal.anew-loop-i-preserved
anew-loop-i-preserved t c = (
  rw c.without-rest.ensures (λ j h. c.loop-i.invariant.0 j (removed_within (member c.loop-i.rest) c.in-Some.i j h)),
  c.greedy.auto.work ∙ c.loop-i.invariant.1,
  c.greedy.ensures.memory,
)

pub anew-greedy-requires : goal.anew-greedy-requires
anew-greedy-requires t c = search (rules, problem_kept)

-- ---- extend

-- the promise to begin with
seed_in : (t : ℕ) (c : goal.extend-In-Some t)
    → member c.loop-i.rest c.in-Some.i ≡ true
seed_in t c = (c.in-Some.ensures).here

-- it is an entry
seed_small : (t : ℕ) (c : goal.extend-In-Some t)
    → c.in-Some.i < 64
seed_small t c =
    let asked = c.requires.problem in
    omega (arith, chosen_below asked c.loop-i.invariant.0 _ (seed_in t c), asked.promising.few)

pub extend-seed-set-requires : goal.extend-seed-set-requires
extend-seed-set-requires t c =
    let asked = c.requires.problem in
    let inv = c.loop-i.invariant in
    let rest = member c.loop-i.rest in (
      omega (arith, c.decreases),
      (
        problem_kept asked inv.1 inv.2.memory,
        rw c.minus-one.ensures (λ j h. inv.0 j (both_parts true (rest j) _ h).0),
        rw c.without-others.ensures (λ j h. inv.0 j (removed_within rest c.in-Some.i j h)),
      ),
    )

pub extend-also_new-listed-requires : goal.extend-also_new-listed-requires
extend-also_new-listed-requires t c =
    let a = c.args in
    let asked = c.requires.problem in
    room_placed (problem_of a.entries.now a.q) asked.promising.few (room_kept (c.seed-set.auto.work ∙ c.loop-i.invariant.1) asked.room) c.loop-i.invariant.2.lists.some

pub extend-loop-i-smaller : goal.extend-loop-i-smaller
extend-loop-i-smaller t c = rw c.without-others.ensures (count_removed (member c.loop-i.rest) 64 (seed_in t (goal.at.extend-loop-i-smaller t c).In-Some) (seed_small t (goal.at.extend-loop-i-smaller t c).In-Some))

pub extend-loop-i-preserved : goal.extend-loop-i-preserved
extend-loop-i-preserved t c =
    let a = c.args in
    let asked = c.requires.problem in
    let inv = c.loop-i.invariant in
    let P = problem_of a.entries.now a.q in
    let fits : list_room (length a.entries.now) ≤ a.level.size = omega (arith, asked.room.stack) in
    let seed = c.seed-set.ensures in
    let mid = c.seed-set.new.work in (
      rw c.without-others.ensures (λ j h. inv.0 j (removed_within (member c.loop-i.rest) c.in-Some.i j h)),
      c.also_new-listed.auto.work ∙ c.seed-set.auto.work ∙ inv.1,
      listed_new P a.level.depth a.level.size mid _ c.seed-set.result fits (lists_kept P fits c.loop-i.work mid seed.same inv.2.lists) seed.memory seed.fit _ c.also_new-listed.ensures,
    )

-- ---- seed

pub seed-grown-low-requires : goal.seed-grown-low-requires
seed-grown-low-requires t c =
    let asked = c.requires.0 in (
      omega (arith, c.decreases),
      grow_asked asked (rw c.empty.ensures (λ i h. absurd (false≢true h))) (λ i h. rw asked.all_asking at (both_parts true (member c.closed.result i) _ (rw c.intersection-base.ensures at h)).1) (inl c.empty.ensures) refl asked.memory,
    )

pub seed-grown-one-requires : goal.seed-grown-one-requires
seed-grown-one-requires t c =
    let asked = c.requires.0 in (
      omega (arith, c.decreases),
      grow_asked asked c.grown-low.ensures.promising.within (λ i h. rw asked.all_asking at (c.requires.1 i h)) c.grown-low.ensures.fit c.grown-low.auto.work c.grown-low.ensures.memory,
    )

pub seed-grown-two-requires : goal.seed-grown-two-requires
seed-grown-two-requires t c =
    let asked = c.requires.0 in (
      omega (arith, c.decreases),
      grow_asked asked c.grown-one.ensures.promising.within (λ i h. rw asked.all_asking at (c.requires.2 i h)) c.grown-one.ensures.fit (c.grown-one.auto.work ∙ c.grown-low.auto.work) c.grown-one.ensures.memory,
    )

pub seed-grown-requires : goal.seed-grown-requires
seed-grown-requires t c =
    let asked = c.requires.0 in (
      omega (arith, c.decreases),
      grow_asked asked c.grown-two.ensures.promising.within (λ i h. rw asked.all_asking at h) c.grown-two.ensures.fit (c.grown-two.auto.work ∙ c.grown-one.auto.work ∙ c.grown-low.auto.work) c.grown-two.ensures.memory,
    )

pub seed-shape_of-work : goal.seed-shape_of-work
seed-shape_of-work t c = c.grown.auto.work ∙ c.grown-two.auto.work ∙ c.grown-one.auto.work ∙ c.grown-low.auto.work

pub seed-returns : goal.seed-returns
seed-returns t c =
    let last = c.grown.ensures in
    record { promising = last.promising; fit = last.fit; same = last.same ∙ c.grown-two.ensures.same ∙ c.grown-one.ensures.same ∙ c.grown-low.ensures.same; memory = last.memory }

-- ---- refute

-- what is wanted of the part
part_fewer : (t : ℕ) (c : goal.refute-After-narrowed-p t)
    → (b : Bool) → Within (wanted (member c.narrowed-p.result.yes) (member c.narrowed-p.result.no) b) (wanted (member c.args.q.yes) (member c.args.q.no) b)
part_fewer t c = narrowed_fewer c.narrowed-p.ensures

pub refute-asking-requires : goal.refute-asking-requires
refute-asking-requires t c =
    let promising = c.requires.promising in
    record { few = promising.few; below = λ b i h. promising.below b i (part_fewer t (c) b i h) }

pub refute-by_list-requires : goal.refute-by_list-requires
refute-by_list-requires t c =
    let asked = c.requires in (
      omega (arith, c.decreases),
      record {
        promising = record {
          formed = asked.promising.formed;
          few = asked.promising.few;
          below = λ b i h. asked.promising.below b i (part_fewer t (goal.at.refute-by_list-requires t c).After-narrowed-p b i h);
          within = λ i h. h;
          shallow = λ b i h. asked.promising.shallow b i (part_fewer t (goal.at.refute-by_list-requires t c).After-narrowed-p b i h);
        };
        deep = asked.deep;
        all_asking = c.asking.ensures;
        room = asked.room;
        memory = asked.memory;
      },
    )

pub refute-learn_refuted-requires : goal.refute-learn_refuted-requires
refute-learn_refuted-requires t c =
    let asked = c.requires in
    record {
      none = c.in-No.ensures.0;
      formed = asked.promising.formed;
      small = record { few = asked.promising.few; below = λ b i h. asked.promising.below b i (part_fewer t (goal.at.refute-learn_refuted-requires t c).After-narrowed-p b i h) };
      room = room_kept c.by_list.auto.work asked.room;
      memory = c.by_list.ensures.1;
    }

pub refute-shape_of-work-in-No : goal.refute-shape_of-work-in-No
refute-shape_of-work-in-No t c = c.learn_refuted.auto.work ∙ c.by_list.auto.work

pub refute-returns-in-No : goal.refute-returns-in-No
refute-returns-in-No t c = (λ e s. (c.in-No.ensures.0) (narrowed_solvable c.args.entries.now c.narrowed-p.ensures s), c.learn_refuted.ensures.memory)

pub refute-returns-in_default : goal.refute-returns-in_default
refute-returns-in_default t c = (λ e. absurd (false≢true e), c.by_list.ensures.1)

-- ---- columns

pub columns-prices_behind-prices-requires : goal.columns-prices_behind-prices-requires
columns-prices_behind-prices-requires t c =
    let a = c.args in
    let asked = c.requires in
    room_placed (problem_of a.entries.now a.q) asked.promising.few (room_kept (c.weighs.auto.work ∙ c.loop-r.invariant.1) asked.room) c.weighs.ensures.lists.some

pub columns-column-set-requires : goal.columns-column-set-requires
columns-column-set-requires t c =
    let asked = c.requires in
    (omega (arith, c.decreases), problem_kept asked (c.weighs.auto.work ∙ c.loop-r.invariant.1) c.weighs.ensures.memory)

pub columns-shape_of-work-then-not-pays : goal.columns-shape_of-work-then-not-pays
columns-shape_of-work-then-not-pays t c = c.column-set.auto.work ∙ c.weighs.auto.work ∙ c.loop-r.invariant.1

pub columns-also-requires : goal.columns-also-requires
columns-also-requires t c =
    let a = c.args in
    let asked = c.requires in
    room_placed (problem_of a.entries.now a.q) asked.promising.few (room_kept (c.column-set.auto.work ∙ c.weighs.auto.work ∙ c.loop-r.invariant.1) asked.room) c.weighs.ensures.lists.some

-- the set can be kept, and is listed or not
column_listed : (t : ℕ) (c : goal.columns-After-also t)
    → ListingIs (problem_of c.args.entries.now c.args.q) nothing (member c.column-set.result) c.loop-r.k c.args.level.depth c.args.level.size c.column-set.new.work c.also.new.work c.also.result
column_listed t c =
    let a = c.args in
    let asked = c.requires in
    let Q = problem_of a.entries.now a.q in
    let room : list_room (length a.entries.now) ≤ a.level.size = omega (arith, asked.room.stack) in
    let grown = c.column-set.ensures in
    listing_also Q nothing (member c.column-set.result) a.level.depth a.level.size c.column-set.new.work c.also.new.work (code c.column-set.result) room
    (lists_kept Q room c.weighs.new.work c.column-set.new.work grown.same c.weighs.ensures.lists) grown.memory
    (⊎_elim (λ (none : member c.column-set.result ≡ nothing). absurd (c.pays.ensures c.if-not-pays.false none)) (λ (fit : Fit Q (code c.column-set.result)). fit) grown.fit)
    (code_above c.column-set.result refl) c.also.result c.also.ensures

pub columns-loop-r-smaller : goal.columns-loop-r-smaller
columns-loop-r-smaller t c = let listed = c.in-Ok.ensures in omega (arith, listed.0, listed.1)

pub columns-loop-r-preserved : goal.columns-loop-r-preserved
columns-loop-r-preserved t c =
    let listed = rw c.in-Ok.is at (column_listed t (goal.at.columns-loop-r-preserved t c).After-also) in
    (listed.lists, c.also.auto.work ∙ c.column-set.auto.work ∙ c.weighs.auto.work ∙ c.loop-r.invariant.1, listed.memory)

pub columns-shape_of-work-in_default-also : goal.columns-shape_of-work-in_default-also
columns-shape_of-work-in_default-also t c = c.also.auto.work ∙ c.column-set.auto.work ∙ c.weighs.auto.work ∙ c.loop-r.invariant.1

pub columns-returns-in_default-also : goal.columns-returns-in_default-also
columns-returns-in_default-also t c = (rw c.in_default-also.is at (column_listed t (goal.at.columns-returns-in_default-also t c).After-also)).memory

pub columns-loop-r-init : goal.columns-loop-r-init
columns-loop-r-init t c = search (rules, lists_none)

pub columns-weighs-requires : goal.columns-weighs-requires
columns-weighs-requires t c = search (rules, room_kept)

pub columns-shape_of-work : goal.columns-shape_of-work
columns-shape_of-work t c = c.weighs.auto.work ∙ c.loop-r.invariant.1

-- ---- column

pub column-grown-low-requires : goal.column-grown-low-requires
column-grown-low-requires t c =
    let asked = c.requires in
    let Q = problem_of c.args.entries.now c.args.q in
    let nothing_in : Within (member c.empty.result) (asking Q) = rw c.empty.ensures (λ i h. absurd (false≢true h)) in
    let base_in : Within (member c.intersection-base.result) (asking Q) = λ i h. rw asked.all_asking at (both_parts true (member c.closed.result i) _ (rw c.intersection-base.ensures at h)).1 in (
      omega (arith, c.decreases),
      grow_asked asked nothing_in base_in (inl c.empty.ensures) refl asked.memory,
    )

pub column-grown_by-set-requires : goal.column-grown_by-set-requires
column-grown_by-set-requires t c =
    let asked = c.requires in
    let low = c.grown-low.ensures in (
      omega (arith, c.decreases),
      grow_asked asked low.promising.within (λ i h. rw asked.all_asking at h) low.fit c.grown-low.auto.work low.memory,
    )

pub column-loop-q-init : goal.column-loop-q-init
column-loop-q-init t c =
    let set = c.grown_by-set.ensures in
    (set.promising.within, set.fit, λ i h. (both_parts true (member c.weighted.result i) _ (rw c.intersection-rest.ensures at h)).1, refl, refl, set.memory)

pub column-shape_of-work : goal.column-shape_of-work
column-shape_of-work t c = c.loop-q.invariant.3 ∙ c.grown_by-set.auto.work ∙ c.grown-low.auto.work

pub column-returns : goal.column-returns
column-returns t c = let inv = c.loop-q.invariant in record { promising = promising_of c.requires.promising inv.0; fit = inv.1; same = inv.4 ∙ c.grown_by-set.ensures.same ∙ c.grown-low.ensures.same; memory = inv.5 }

pub column-shape_of-work-in_default : goal.column-shape_of-work-in_default
column-shape_of-work-in_default t c = c.loop-q.invariant.3 ∙ c.grown_by-set.auto.work ∙ c.grown-low.auto.work

pub column-returns-in_default : goal.column-returns-in_default
column-returns-in_default t c = let inv = c.loop-q.invariant in record { promising = promising_of c.requires.promising inv.0; fit = inv.1; same = inv.4 ∙ c.grown_by-set.ensures.same ∙ c.grown-low.ensures.same; memory = inv.5 }

-- the entry to begin with
start_in : (t : ℕ) (c : goal.column-In-Some t) → member c.loop-q.rest c.in-Some.i ≡ true
start_in t c = (c.in-Some.ensures).here

start_small : (t : ℕ) (c : goal.column-In-Some t) → c.in-Some.i < 64
start_small t c =
    let asked = c.requires in
    omega (arith, chosen_below asked c.loop-q.invariant.2 _ (start_in t c), asked.promising.few)

pub column-grown-start-requires : goal.column-grown-start-requires
column-grown-start-requires t c =
    let asked = c.requires in
    let inv = c.loop-q.invariant in
    let low = c.grown-low.ensures in (
      omega (arith, c.decreases),
      grow_asked asked low.promising.within (λ i h. rw asked.all_asking at (inv.2 i (both_parts true (member c.loop-q.rest i) _ (rw c.minus.ensures at h)).0)) low.fit (inv.3 ∙ c.grown_by-set.auto.work ∙ c.grown-low.auto.work) inv.5,
    )

pub column-grown_by-set-requires-in-loop-q : goal.column-grown_by-set-requires-in-loop-q
column-grown_by-set-requires-in-loop-q t c =
    let asked = c.requires in
    let one = c.grown-start.ensures in (
      omega (arith, c.decreases),
      grow_asked asked one.promising.within (λ i h. rw asked.all_asking at h) one.fit (c.grown-start.auto.work ∙ c.loop-q.invariant.3 ∙ c.grown_by-set.auto.work ∙ c.grown-low.auto.work) one.memory,
    )

pub column-loop-q-smaller : goal.column-loop-q-smaller
column-loop-q-smaller t c = rw c.without-others.ensures (count_removed (member c.loop-q.rest) 64 (start_in t (goal.at.column-loop-q-smaller t c).In-Some) (start_small t (goal.at.column-loop-q-smaller t c).In-Some))

pub column-loop-q-preserved : goal.column-loop-q-preserved
column-loop-q-preserved t c =
    let inv = c.loop-q.invariant in
    let set = c.grown_by-set-in-loop-q.ensures in (
      set.promising.within,
      set.fit,
      rw c.without-others.ensures (λ j h. inv.2 j (removed_within (member c.loop-q.rest) c.in-Some.i j h)),
      c.grown_by-set-in-loop-q.auto.work ∙ c.grown-start.auto.work ∙ inv.3,
      set.same ∙ c.grown-start.ensures.same ∙ inv.4,
      set.memory,
    )

-- ---- greedy

-- the slots are few
greedy_few : (t : ℕ) (c : goal.greedy-At-loop-q t) → Few c.loop-q.work c.loop-q.slots
greedy_few t c =
    let a = c.args in
    let promising = c.requires.promising in
    serving_few a.entries.now a.q c.loop-q.work c.loop-q.slots (small_of promising) c.loop-q.invariant.0.serving c.loop-q.invariant.0.copies

pub greedy-met-requires : goal.greedy-met-requires
greedy-met-requires t c = (greedy_few t (goal.at.greedy-met-requires t c).At-loop-q, c.requires.all_asking)

pub greedy-returns : goal.greedy-returns
greedy-returns t c =
    let a = c.args in
    let inv = c.loop-q.invariant in
    record { answers = λ e. found (problem_of a.entries.now a.q) c.requires.promising.below inv.0.fit (rw c.loop-q-test.false at c.met.ensures) inv.0.kept; memory = inv.2 }

pub greedy-unmet-requires : goal.greedy-unmet-requires
greedy-unmet-requires t c = (c.requires.promising.few, greedy_few t (goal.at.greedy-unmet-requires t c).At-loop-q)

pub greedy-used_up-requires : goal.greedy-used_up-requires
greedy-used_up-requires t c = (c.requires.promising.few, greedy_few t (goal.at.greedy-used_up-requires t c).At-loop-q)

-- all sets that are tried are of needs and limits
all_asks : (t : ℕ) (c : goal.greedy-At-loop-q t) → Within (member c.args.all) (asking (problem_of c.args.entries.now c.args.q))
all_asks t c i h = rw c.requires.all_asking at h

open_asks : (t : ℕ) (c : goal.greedy-After-intersection-full t) → Within (member c.intersection-open.result) (asking (problem_of c.args.entries.now c.args.q))
open_asks t c i h = rw c.requires.all_asking at (both_parts true (member c.unmet.result i) _ (rw c.intersection-open.ensures at h)).1

full_asks : (t : ℕ) (c : goal.greedy-After-intersection-full t) → Within (member c.intersection-full.result) (asking (problem_of c.args.entries.now c.args.q))
full_asks t c i h = rw c.requires.all_asking at (both_parts true (member c.used_up.result i) _ (rw c.intersection-full.ensures at h)).1

pub greedy-grown-one-requires : goal.greedy-grown-one-requires
greedy-grown-one-requires t c =
    let asked = c.requires in
    let inv = c.loop-q.invariant in
    let nothing_in : Within (member c.empty.result) (asking (problem_of c.args.entries.now c.args.q)) = rw c.empty.ensures (λ i h. absurd (false≢true h)) in (
      omega (arith, c.decreases),
      grow_asked asked nothing_in (λ i h. open_asks t (goal.at.greedy-grown-one-requires t c).After-intersection-full i (c.foremost.ensures i h)) (inl c.empty.ensures) inv.1 inv.2,
    )

pub greedy-grown-safe-requires : goal.greedy-grown-safe-requires
greedy-grown-safe-requires t c =
    let asked = c.requires in
    let one = c.grown-one.ensures in (
      omega (arith, c.decreases),
      grow_asked asked one.promising.within (full_asks t (goal.at.greedy-grown-safe-requires t c).After-intersection-full) one.fit (c.grown-one.auto.work ∙ c.loop-q.invariant.1) one.memory,
    )

pub greedy-grown-wide-requires : goal.greedy-grown-wide-requires
greedy-grown-wide-requires t c =
    let asked = c.requires in
    let safe = c.grown-safe.ensures in (
      omega (arith, c.decreases),
      grow_asked asked safe.promising.within (open_asks t (goal.at.greedy-grown-wide-requires t c).After-intersection-full) safe.fit (c.grown-safe.auto.work ∙ c.grown-one.auto.work ∙ c.loop-q.invariant.1) safe.memory,
    )

pub greedy-grown-set-requires : goal.greedy-grown-set-requires
greedy-grown-set-requires t c =
    let asked = c.requires in
    let wide = c.grown-wide.ensures in (
      omega (arith, c.decreases),
      grow_asked asked wide.promising.within (all_asks t (goal.at.greedy-grown-set-requires t c).At-loop-q) wide.fit (c.grown-wide.auto.work ∙ c.grown-safe.auto.work ∙ c.grown-one.auto.work ∙ c.loop-q.invariant.1) wide.memory,
    )

-- the slots are the same after the set was grown
still_taken : (t : ℕ) (c : goal.greedy-After-grown-set t)
    → Taken (problem_of c.args.entries.now c.args.q) c.loop-q.slots c.grown-set.new.work
still_taken t c =
    let a = c.args in
    let P = problem_of a.entries.now a.q in
    taken_kept P {level = a.level.size} c.loop-q.work c.grown-set.new.work (taken_below P c.requires.room c.loop-q.invariant.0) (c.grown-set.ensures.same ∙ c.grown-wide.ensures.same ∙ c.grown-safe.ensures.same ∙ c.grown-one.ensures.same) c.loop-q.invariant.0

grown_length : (t : ℕ) (c : goal.greedy-After-grown-set t)
    → length c.grown-set.new.work ≡ length c.args.work.now
grown_length t c = c.grown-set.auto.work ∙ c.grown-wide.auto.work ∙ c.grown-safe.auto.work ∙ c.grown-one.auto.work ∙ c.loop-q.invariant.1

pub greedy-useful-m-requires : goal.greedy-useful-m-requires
greedy-useful-m-requires t c =
    let a = c.args in
    let promising = c.requires.promising in
    let now = still_taken t (goal.at.greedy-useful-m-requires t c).After-grown-set in
    (serving_few a.entries.now a.q c.grown-set.new.work c.loop-q.slots (small_of promising) now.serving now.copies, now.kept)

pub greedy-shape_of-work-then-m-eq0 : goal.greedy-shape_of-work-then-m-eq0
greedy-shape_of-work-then-m-eq0 t c = grown_length t (goal.at.greedy-shape_of-work-then-m-eq0 t c).After-grown-set

pub greedy-returns-then-m-eq0 : goal.greedy-returns-then-m-eq0
greedy-returns-then-m-eq0 t c = record { answers = λ e. absurd (false≢true e); memory = c.grown-set.ensures.memory }

-- copies of the set are of use, and there is room for the slot
some_use : (t : ℕ) (c : goal.greedy-Else-m-eq0 t) → 0 < c.useful-m.result
some_use t c = omega (arith, c.if-m-eq0.false)

slot_room : (t : ℕ) (c : goal.greedy-Else-m-eq0 t) → Taken (problem_of c.args.entries.now c.args.q) c.loop-q.slots c.grown-set.new.work → suc c.loop-q.slots ≤ sum_of_grades (wide_in c.args.entries.now) (length c.args.entries.now)
slot_room t c taken = taken_room (problem_of c.args.entries.now c.args.q) taken c.useful-m.ensures (some_use t c)

pub greedy-put_slot-requires : goal.greedy-put_slot-requires
greedy-put_slot-requires t c = omega (arith, slot_room t (goal.at.greedy-put_slot-requires t c).Else-m-eq0 (still_taken t (goal.at.greedy-put_slot-requires t c).After-grown-set), c.requires.room.stack, room_level c.requires.room, grown_length t (goal.at.greedy-put_slot-requires t c).After-grown-set)

pub greedy-overflow_add-slots : goal.greedy-overflow_add-slots
greedy-overflow_add-slots t c = record { fits = omega (arith, slot_room t (goal.at.greedy-overflow_add-slots t c).Else-m-eq0 (still_taken t (goal.at.greedy-overflow_add-slots t c).After-grown-set), c.requires.room.stack, room_level c.requires.room) }

pub greedy-loop-q-smaller : goal.greedy-loop-q-smaller
greedy-loop-q-smaller t c = omega (arith, slot_room t (goal.at.greedy-loop-q-smaller t c).Else-m-eq0 (still_taken t (goal.at.greedy-loop-q-smaller t c).After-grown-set))

pub greedy-loop-q-preserved : goal.greedy-loop-q-preserved
greedy-loop-q-preserved t c =
    let a = c.args in
    let P = problem_of a.entries.now a.q in
    let set = c.grown-set.result in
    let fit = fit_useful P set c.grown-set.ensures.fit c.useful-m.ensures (some_use t (goal.at.greedy-loop-q-preserved t c).Else-m-eq0) in (
      rw add-one (taken_more P (still_taken t (goal.at.greedy-loop-q-preserved t c).After-grown-set) c.useful-m.ensures (some_use t (goal.at.greedy-loop-q-preserved t c).Else-m-eq0) fit c.put_slot.ensures),
      c.put_slot.ensures.same_length ∙ grown_length t (goal.at.greedy-loop-q-preserved t c).After-grown-set,
      memory_put P a.level.depth a.level.size c.grown-set.new.work c.put_slot.new.words (omega (arith, slot_room t (goal.at.greedy-loop-q-preserved t c).Else-m-eq0 (still_taken t (goal.at.greedy-loop-q-preserved t c).After-grown-set), c.requires.room.stack)) c.put_slot.ensures c.grown-set.ensures.memory,
    )

pub greedy-loop-q-init : goal.greedy-loop-q-init
greedy-loop-q-init t c = search (rules, taken_none)

-- ---- grown_by

pub grown_by-loop-i-init : goal.grown_by-loop-i-init
grown_by-loop-i-init t c =
    let a = c.args in
    let asked = c.requires in
    (λ i h. asked.promising.within i (either_left (member a.low) (member a.free) i h), λ i h. asked.promising.within i (either_right (member a.low) (member a.free) i h), asked.fit, refl, refl, asked.memory)

-- the member that is tried next
next_in : (t : ℕ) (c : goal.grown_by-In-Some t) → member c.loop-i.rest c.in-Some.i ≡ true
next_in t c = c.heaviest.ensures _ (c.in-Some.ensures).here

next_small : (t : ℕ) (c : goal.grown_by-In-Some t) → c.in-Some.i < 64
next_small t c =
    let a = c.args in
    let promising = c.requires.promising in
    let P = problem_of a.entries.now a.q in
    omega (arith, promise_below P (asking P) (a.level.depth - 1) (promising_of promising (λ i h. h)) c.in-Some.i (c.loop-i.invariant.1 _ (next_in t c)), promising.few)

pub grown_by-with-more-requires : goal.grown_by-with-more-requires
grown_by-with-more-requires t c = next_small t (goal.at.grown_by-with-more-requires t c).In-Some

-- with it
more_within : (t : ℕ) (c : goal.grown_by-After-with-more t) → Within (member c.with-more.result) (asking (problem_of c.args.entries.now c.args.q))
more_within t c = rw c.with-more.ensures (added_within (member c.loop-i.set) c.in-Some.i (c.loop-i.invariant.1 _ (c.heaviest.ensures _ c.in-Some.ensures.here)) c.loop-i.invariant.0)

pub grown_by-keeps-requires : goal.grown_by-keeps-requires
grown_by-keeps-requires t c =
    let asked = c.requires in
    let inv = c.loop-i.invariant in
    (omega (arith, c.decreases), record { promising = promising_of asked.promising (more_within t (goal.at.grown_by-keeps-requires t c).After-with-more); deep = asked.deep; room = room_kept inv.3 asked.room; memory = inv.5 })

pub grown_by-loop-i-smaller-then-keeps : goal.grown_by-loop-i-smaller-then-keeps
grown_by-loop-i-smaller-then-keeps t c = rw c.without-rest.ensures (count_removed (member c.loop-i.rest) 64 (next_in t (goal.at.grown_by-loop-i-smaller-then-keeps t c).In-Some) (next_small t (goal.at.grown_by-loop-i-smaller-then-keeps t c).In-Some))

pub grown_by-loop-i-preserved-then-keeps : goal.grown_by-loop-i-preserved-then-keeps
grown_by-loop-i-preserved-then-keeps t c =
    let inv = c.loop-i.invariant in (
      more_within t (goal.at.grown_by-loop-i-preserved-then-keeps t c).After-with-more,
      rw c.without-rest.ensures (λ j h. inv.1 j (removed_within (member c.loop-i.rest) c.in-Some.i j h)),
      inr (rw c.if-keeps.true at c.keeps.ensures.answers),
      c.keeps.auto.work ∙ inv.3,
      c.keeps.ensures.same ∙ inv.4,
      c.keeps.ensures.memory,
    )

pub grown_by-loop-i-smaller : goal.grown_by-loop-i-smaller
grown_by-loop-i-smaller t c = rw c.without-rest.ensures (count_removed (member c.loop-i.rest) 64 (next_in t (goal.at.grown_by-loop-i-smaller t c).In-Some) (next_small t (goal.at.grown_by-loop-i-smaller t c).In-Some))

pub grown_by-loop-i-preserved : goal.grown_by-loop-i-preserved
grown_by-loop-i-preserved t c =
    let inv = c.loop-i.invariant in (
      inv.0,
      rw c.without-rest.ensures (λ j h. inv.1 j (removed_within (member c.loop-i.rest) c.in-Some.i j h)),
      inv.2,
      c.keeps.auto.work ∙ inv.3,
      c.keeps.ensures.same ∙ inv.4,
      c.keeps.ensures.memory,
    )

-- ---- probe

pub probe-loop-asked-init : goal.probe-loop-asked-init
probe-loop-asked-init t c =
    let asked = c.requires in (
      c.start-at.ensures _ _ (small_of asked.promising) asked.all_asking (omega (arith, asked.room.stack, length-take-le c.args.level.size c.args.work.now (room_level asked.room))),
      refl,
      asked.memory,
    )

-- the level's words, lent to the search
pub probe-slice_bounds-search-end : goal.probe-slice_bounds-search-end
probe-slice_bounds-search-end t c = room_level (room_kept c.loop-asked.invariant.1 c.requires.room)

pub probe-slice_bounds-search-end-in-loop-asked : goal.probe-slice_bounds-search-end-in-loop-asked
probe-slice_bounds-search-end-in-loop-asked t c = sym (length-take-le c.args.level.size c.loop-asked.work (room_level (room_kept c.loop-asked.invariant.1 c.requires.room)))

-- as many have come back
searched_level : (t : ℕ) (c : goal.probe-After-search t) → length c.search.new.words ≡ c.args.level.size
searched_level t c = c.search.auto.words ∙ length-take-le c.args.level.size c.loop-asked.work (room_level (room_kept c.loop-asked.invariant.1 c.requires.room))

search_room : (t : ℕ) (c : goal.probe-After-search t)
    → Roomy (wide_in c.args.entries.now) (length c.args.entries.now) c.args.level.depth c.args.level.size (length (c.search.new.words ++ drop c.args.level.size c.loop-asked.work))
search_room t c = room_kept (length_front c.loop-asked.work c.search.new.words c.args.level.size c.search.auto.words ∙ c.loop-asked.invariant.1) c.requires.room

search_memory : (t : ℕ) (c : goal.probe-After-search t)
    → Remembers (wide_in c.args.entries.now) c.args.level.depth c.args.level.size (c.search.new.words ++ drop c.args.level.size c.loop-asked.work)
search_memory t c = memory_over (wide_in c.args.entries.now) c.loop-asked.work c.search.new.words c.args.level.depth c.args.level.size (searched_level t c) c.loop-asked.invariant.2

pub probe-shape_of-work-in-Found : goal.probe-shape_of-work-in-Found
probe-shape_of-work-in-Found t c = length_front c.loop-asked.work c.search.new.words c.args.level.size c.search.auto.words ∙ c.loop-asked.invariant.1

pub probe-returns-in-Found : goal.probe-returns-in-Found
probe-returns-in-Found t c = (c.in-Found.ensures, search_memory t (goal.at.probe-returns-in-Found t c).After-search)

pub probe-shape_of-work-in-Failed : goal.probe-shape_of-work-in-Failed
probe-shape_of-work-in-Failed t c = length_front c.loop-asked.work c.search.new.words c.args.level.size c.search.auto.words ∙ c.loop-asked.invariant.1

pub probe-returns-in-Failed : goal.probe-returns-in-Failed
probe-returns-in-Failed t c = (c.in-Failed.ensures, search_memory t (goal.at.probe-returns-in-Failed t c).After-search)

-- what the search has asked for
told : (t : ℕ) (c : goal.probe-In-Ask t)
    → AskedIs (problem_of c.args.entries.now c.args.q) c.args.all c.search.new.words c.in-Ask.asked
    × (to_do c.search.new.words (trying c.in-Ask.asked.slots c.in-Ask.asked.set) ≤ to_do (take c.args.level.size c.loop-asked.work) c.loop-asked.at)
told t c = c.in-Ask.ensures

pub probe-keeps-requires : goal.probe-keeps-requires
probe-keeps-requires t c =
    let given = c.requires in (
      omega (arith, c.decreases),
      record {
        promising = promising_fewer given.promising (within_same given.all_asking (told t (goal.at.probe-keeps-requires t c).In-Ask).0.at.within);
        deep = given.deep;
        room = search_room t (goal.at.probe-keeps-requires t c).After-search;
        memory = search_memory t (goal.at.probe-keeps-requires t c).After-search;
      },
    )

-- the try has kept the level's words: what was asked is asked still, and there is no more to be done
keeps_front : (t : ℕ) (c : goal.probe-After-keeps t) → take c.args.level.size c.keeps.new.work ≡ c.search.new.words
keeps_front t c =
    c.keeps.ensures.same
    ∙ take_at c.search.new.words (drop c.args.level.size c.loop-asked.work) c.args.level.size (c.search.auto.words ∙ length-take-le c.args.level.size c.loop-asked.work (room_level (room_kept c.loop-asked.invariant.1 c.requires.room)))

keeps_fits : (t : ℕ) (c : goal.probe-After-keeps t) → c.args.level.size ≤ length c.keeps.new.work
keeps_fits t c =
    room_level (room_kept (c.keeps.auto.work ∙ length_front c.loop-asked.work c.search.new.words c.args.level.size c.search.auto.words ∙ c.loop-asked.invariant.1) c.requires.room)

behind_keeps : (t : ℕ) (c : goal.probe-After-keeps t)
    → AskedIs (problem_of c.args.entries.now c.args.q) c.args.all (take c.args.level.size c.keeps.new.work) c.in-Ask.asked
behind_keeps t c = rw (keeps_front t c) c.in-Ask.ensures.0

keeps_to_do : (t : ℕ) (c : goal.probe-After-keeps t)
    → to_do (take c.args.level.size c.keeps.new.work) (trying c.in-Ask.asked.slots c.in-Ask.asked.set) ≤ to_do (take c.args.level.size c.loop-asked.work) c.loop-asked.at
keeps_to_do t c = rw (keeps_front t c) c.in-Ask.ensures.1

pub probe-slice_bounds-take-end : goal.probe-slice_bounds-take-end
probe-slice_bounds-take-end t c = keeps_fits t (goal.at.probe-slice_bounds-take-end t c).After-keeps

pub probe-slice_bounds-take-end-then-keeps : goal.probe-slice_bounds-take-end-then-keeps
probe-slice_bounds-take-end-then-keeps t c = sym (length-take-le c.args.level.size c.keeps.new.work (keeps_fits t (goal.at.probe-slice_bounds-take-end-then-keeps t c).After-keeps))

pub probe-take-at-requires : goal.probe-take-at-requires
probe-take-at-requires t c = ((told t (goal.at.probe-take-at-requires t c).In-Ask).0.at.within, (behind_keeps t (goal.at.probe-take-at-requires t c).After-keeps).space)

-- behind a set that can be kept
behind_take : (t : ℕ) (c : goal.probe-After-take-at t)
    → AskedIs (problem_of c.args.entries.now c.args.q) c.args.all (take c.args.level.size c.keeps.new.work) c.in-Ask.asked
    → Nearer (problem_of c.args.entries.now c.args.q) c.args.all c.take-at.new.words (to_do (take c.args.level.size c.keeps.new.work) (trying c.in-Ask.asked.slots c.in-Ask.asked.set)) c.take-at.result
behind_take t c asked = c.take-at.ensures (problem_of c.args.entries.now c.args.q) asked (rw c.if-keeps.true at c.keeps.ensures.answers)

taken_level : (t : ℕ) (c : goal.probe-After-take-at t) → c.args.level.size ≤ length c.keeps.new.work → length c.take-at.new.words ≡ c.args.level.size
taken_level t c fits = c.take-at.auto.words ∙ length-take-le c.args.level.size c.keeps.new.work fits

take_front : (t : ℕ) (c : goal.probe-After-take-at t) → c.args.level.size ≤ length c.keeps.new.work
    → take c.args.level.size (c.take-at.new.words ++ drop c.args.level.size c.keeps.new.work) ≡ c.take-at.new.words
take_front t c fits = take_at c.take-at.new.words (drop c.args.level.size c.keeps.new.work) c.args.level.size (taken_level t c fits)

pub probe-loop-asked-smaller-then-keeps : goal.probe-loop-asked-smaller-then-keeps
probe-loop-asked-smaller-then-keeps t c = rw (take_front t (goal.at.probe-loop-asked-smaller-then-keeps t c).After-take-at (keeps_fits t (goal.at.probe-loop-asked-smaller-then-keeps t c).After-keeps)) (omega (arith, (behind_take t (goal.at.probe-loop-asked-smaller-then-keeps t c).After-take-at (behind_keeps t (goal.at.probe-loop-asked-smaller-then-keeps t c).After-keeps)).less, keeps_to_do t (goal.at.probe-loop-asked-smaller-then-keeps t c).After-keeps))

pub probe-loop-asked-preserved-then-keeps : goal.probe-loop-asked-preserved-then-keeps
probe-loop-asked-preserved-then-keeps t c = (
  rw (take_front t (goal.at.probe-loop-asked-preserved-then-keeps t c).After-take-at (keeps_fits t (goal.at.probe-loop-asked-preserved-then-keeps t c).After-keeps)) (behind_take t (goal.at.probe-loop-asked-preserved-then-keeps t c).After-take-at (behind_keeps t (goal.at.probe-loop-asked-preserved-then-keeps t c).After-keeps)).at,
  length_front c.keeps.new.work c.take-at.new.words c.args.level.size c.take-at.auto.words ∙ c.keeps.auto.work ∙ length_front c.loop-asked.work c.search.new.words c.args.level.size c.search.auto.words ∙ c.loop-asked.invariant.1,
  memory_over (wide_in c.args.entries.now) c.keeps.new.work c.take-at.new.words c.args.level.depth c.args.level.size (taken_level t (goal.at.probe-loop-asked-preserved-then-keeps t c).After-take-at (keeps_fits t (goal.at.probe-loop-asked-preserved-then-keeps t c).After-keeps)) c.keeps.ensures.memory,
)

pub probe-skip-at-requires : goal.probe-skip-at-requires
probe-skip-at-requires t c = (told t (goal.at.probe-skip-at-requires t c).In-Ask).0.at.within

-- behind a set that cannot be kept
behind_skip : (t : ℕ) (c : goal.probe-After-skip-at t)
    → AskedIs (problem_of c.args.entries.now c.args.q) c.args.all (take c.args.level.size c.keeps.new.work) c.in-Ask.asked
    → Nearer (problem_of c.args.entries.now c.args.q) c.args.all (take c.args.level.size c.keeps.new.work) (to_do (take c.args.level.size c.keeps.new.work) (trying c.in-Ask.asked.slots c.in-Ask.asked.set)) c.skip-at.result
behind_skip t c asked = c.skip-at.ensures (problem_of c.args.entries.now c.args.q) (take c.args.level.size c.keeps.new.work) asked (rw c.if-keeps.false at c.keeps.ensures.answers)

pub probe-loop-asked-smaller : goal.probe-loop-asked-smaller
probe-loop-asked-smaller t c = omega (arith, (behind_skip t (goal.at.probe-loop-asked-smaller t c).After-skip-at (behind_keeps t (goal.at.probe-loop-asked-smaller t c).After-keeps)).less, keeps_to_do t (goal.at.probe-loop-asked-smaller t c).After-keeps)

pub probe-loop-asked-preserved : goal.probe-loop-asked-preserved
probe-loop-asked-preserved t c = ((behind_skip t (goal.at.probe-loop-asked-preserved t c).After-skip-at (behind_keeps t (goal.at.probe-loop-asked-preserved t c).After-keeps)).at, c.keeps.auto.work ∙ length_front c.loop-asked.work c.search.new.words c.args.level.size c.search.auto.words ∙ c.loop-asked.invariant.1, c.keeps.ensures.memory)

-- ---- largest

pub largest-returns-then-not-has_need : goal.largest-returns-then-not-has_need
largest-returns-then-not-has_need t c =
    let a = c.args in
    let asked = c.requires in
    let P = problem_of a.entries.now a.q in
    let high = either (member a.low) (member a.free) in
    listing_same P (member a.low) high a.level.depth a.level.size asked.lists asked.memory
    (reaches_none P c.union-high.result (member a.low) high (list_of (length a.entries.now) a.level.size a.work.now a.k) c.union-high.ensures (c.has_need.ensures c.if-not-has_need.true))

pub largest-returns-then-known : goal.largest-returns-then-known
largest-returns-then-known t c =
    let a = c.args in
    let asked = c.requires in
    let P = problem_of a.entries.now a.q in
    let high = either (member a.low) (member a.free) in
    listing_same P (member a.low) high a.level.depth a.level.size asked.lists asked.memory
    (reaches_known P c.union-high.result (member a.low) high (list_of (length a.entries.now) a.level.size a.work.now a.k) c.union-high.ensures (c.known.ensures c.if-known.true))

pub largest-keeps-requires : goal.largest-keeps-requires
largest-keeps-requires t c =
    let asked = c.requires in
    (omega (arith, c.decreases), record { promising = rw c.union-high.ensures asked.promising; deep = asked.deep; room = asked.room; memory = asked.memory })

pub largest-shape_of-work-then-keeps : goal.largest-shape_of-work-then-keeps
largest-shape_of-work-then-keeps t c = c.also.auto.work ∙ c.keeps.auto.work

pub largest-returns-then-keeps : goal.largest-returns-then-keeps
largest-returns-then-keeps t c =
    let a = c.args in
    let asked = c.requires in
    let P = problem_of a.entries.now a.q in
    let high = either (member a.low) (member a.free) in
    let mid = c.keeps.new.work in
    let after = c.also.new.work in
    let same = c.keeps.ensures.same in
    listing_from P (member a.low) high a.level.depth a.level.size asked.lists.some (room_list asked.room) a.work.now mid after same c.also.result
    (listing_also P (member a.low) high a.level.depth a.level.size mid after _ (room_list asked.room) (lists_kept P (room_list asked.room) a.work.now mid same asked.lists) c.keeps.ensures.memory
    (rw c.if-keeps.true at c.keeps.ensures.answers) (code_above c.union-high.result c.union-high.ensures) c.also.result c.also.ensures)

pub largest-core_of-core-requires : goal.largest-core_of-core-requires
largest-core_of-core-requires t c =
    let a = c.args in
    let asked = c.requires in
    let unfit = rw c.if-keeps.false at c.keeps.ensures.answers in (
      omega (arith, c.decreases),
      record {
        promising = asked.promising;
        unkept = rw c.union-high.ensures at (unfit_unkept (problem_of a.entries.now a.q) c.union-high.result unfit);
        deep = asked.deep;
        room = room_kept c.keeps.auto.work asked.room;
        memory = c.keeps.ensures.memory;
      },
    )

pub largest-loop-i-init : goal.largest-loop-i-init
largest-loop-i-init t c =
    let a = c.args in
    let asked = c.requires in
    let core = c.core_of-core.ensures in
    record {
      promising = asked.promising;
      lists = lists_kept (problem_of a.entries.now a.q) (room_list asked.room) a.work.now c.core_of-core.new.work (core.same ∙ c.keeps.ensures.same) asked.lists;
      memory = core.memory;
      within = core.within;
      unkept = core.unkept;
      fewer = omega arith;
      as_many = refl;
      whole = λ after r h. h;
    }

-- the words where the loop begins are those at entry, as far as the list goes
listed_whole : (t : ℕ) (c : goal.largest-At-loop-i t) (after : List ℕ) (r : Result ℕ Full)
    → ListingIs (problem_of c.args.entries.now c.args.q) (member c.args.low) (either (member c.args.low) (member c.args.free)) c.args.k c.args.level.depth c.args.level.size c.core_of-core.new.work after r
    → ListingIs (problem_of c.args.entries.now c.args.q) (member c.args.low) (either (member c.args.low) (member c.args.free)) c.args.k c.args.level.depth c.args.level.size c.args.work.now after r
listed_whole t c after r =
    let a = c.args in
    let asked = c.requires in
    listing_from (problem_of a.entries.now a.q) (member a.low) (either (member a.low) (member a.free)) a.level.depth a.level.size asked.lists.some (room_list asked.room) a.work.now c.core_of-core.new.work after
    (c.core_of-core.ensures.same ∙ c.keeps.ensures.same) r

as_many_words : (t : ℕ) (c : goal.largest-At-loop-i t) → length c.loop-i.work ≡ length c.args.work.now
as_many_words t c = c.loop-i.invariant.as_many ∙ c.core_of-core.auto.work ∙ c.keeps.auto.work

pub largest-shape_of-work : goal.largest-shape_of-work
largest-shape_of-work t c = as_many_words t (goal.at.largest-shape_of-work t c).At-loop-i

pub largest-returns : goal.largest-returns
largest-returns t c = listed_whole t (goal.at.largest-returns t c).At-loop-i _ (Ok c.loop-i.listed) (branching_done c.loop-i.invariant c.in_default.ensures)

-- the member of the core at hand
picked : (t : ℕ) (c : goal.largest-In-Some t) → member c.loop-i.core c.in-Some.i ≡ true
picked t c = (c.in-Some.ensures).here

pub largest-largest-requires : goal.largest-largest-requires
largest-largest-requires t c =
    let asked = c.requires in
    let at = c.loop-i.invariant in
    rw c.without-left.ensures (
      omega (arith, c.decreases, branching_fewer at _ (picked t (goal.at.largest-largest-requires t c).In-Some)),
      record { promising = branching_promising at _ (picked t (goal.at.largest-largest-requires t c).In-Some); deep = asked.deep; room = room_kept (as_many_words t (goal.at.largest-largest-requires t c).At-loop-i) asked.room; memory = at.memory; lists = at.lists },
    )

pub largest-shape_of-work-in_err-listed : goal.largest-shape_of-work-in_err-listed
largest-shape_of-work-in_err-listed t c = c.largest.auto.work ∙ as_many_words t (goal.at.largest-shape_of-work-in_err-listed t c).At-loop-i

pub largest-returns-in_err-listed : goal.largest-returns-in_err-listed
largest-returns-in_err-listed t c =
    let full = Err c.in_err-listed.field-0.0 in
    let told : c.from_residual.result ≡ full = search rules in
    rw told (listed_whole t (goal.at.largest-returns-in_err-listed t c).At-loop-i _ full (c.loop-i.invariant.whole _ full c.in_err-listed.ensures))

pub largest-with-had-requires : goal.largest-with-had-requires
largest-with-had-requires t c = branching_small c.loop-i.invariant _ (picked t (goal.at.largest-with-had-requires t c).In-Some)

pub largest-loop-i-smaller : goal.largest-loop-i-smaller
largest-loop-i-smaller t c = rw c.without-core.ensures (count_removed (member c.loop-i.core) 64 (picked t (goal.at.largest-loop-i-smaller t c).In-Some) (branching_small c.loop-i.invariant _ (picked t (goal.at.largest-loop-i-smaller t c).In-Some)))

pub largest-loop-i-preserved : goal.largest-loop-i-preserved
largest-loop-i-preserved t c =
    rw (c.without-core.ensures, c.with-had.ensures, c.without-left.ensures)
    (branching_next c.loop-i.invariant _ (picked t (goal.at.largest-loop-i-preserved t c).In-Some) (rw c.without-left.ensures at c.in_ok-listed.ensures) c.largest.auto.work)

pub largest-known-requires : goal.largest-known-requires
largest-known-requires t c = search (rules, room_placed)

pub largest-also-requires : goal.largest-also-requires
largest-also-requires t c = search (rules, room_placed, room_kept)

-- ---- core_of

pub core_of-loop-i-init : goal.core_of-loop-i-init
core_of-loop-i-init t c = core_whole c.requires

pub core_of-keeps-requires : goal.core_of-keeps-requires
core_of-keeps-requires t c =
    let a = c.args in
    let asked = c.requires in
    let at = c.loop-i.invariant in (
      omega (arith, c.decreases),
      record {
        promising = rw (c.union.ensures, c.without-fewer.ensures) (promising_fewer asked.promising (either_fewer (member a.low) _ (member a.free) (λ j h. at.within j (removed_within (member c.loop-i.core) c.in-Some.i j h))));
        deep = asked.deep;
        room = room_kept at.as_many asked.room;
        memory = at.memory;
      },
    )

pub core_of-returns : goal.core_of-returns
core_of-returns t c = core_left c.requires c.loop-i.invariant

-- ---- opposed

pub opposed-returns : goal.opposed-returns
opposed-returns t c = record { answers = λ e. absurd (false≢true e); same = c.loop-i.invariant.3; memory = c.loop-i.invariant.4 }

-- the two entries at hand
first_in : (t : ℕ) (c : goal.opposed-In-Some t) → member c.loop-i.needs c.in-Some.i ≡ true
first_in t c = (c.in-Some.ensures).here

first_below : (t : ℕ) (c : goal.opposed-In-Some t) → c.in-Some.i < length c.args.entries.now
first_below t c = chosen_below c.requires c.loop-i.invariant.0 _ (first_in t c)

second_in : (t : ℕ) (c : goal.opposed-In-Some-highest t) → member c.loop-i.limits c.in-Some-highest.j ≡ true
second_in t c = (c.in-Some-highest.ensures).here

second_below : (t : ℕ) (c : goal.opposed-In-Some-highest t) → c.in-Some-highest.j < length c.args.entries.now
second_below t c = chosen_below c.requires c.loop-i.invariant.1 _ (second_in t c)

pub opposed-exceeds-requires : goal.opposed-exceeds-requires
opposed-exceeds-requires t c = (first_below t (goal.at.opposed-exceeds-requires t c).In-Some, second_below t (goal.at.opposed-exceeds-requires t c).In-Some-highest)

pub opposed-pair-requires : goal.opposed-pair-requires
opposed-pair-requires t c = (omega (arith, first_below t (goal.at.opposed-pair-requires t c).In-Some, c.requires.promising.few), omega (arith, second_below t (goal.at.opposed-pair-requires t c).In-Some-highest, c.requires.promising.few))

-- the limits that allow none
kept_closed : (t : ℕ) (c : goal.opposed-After-intersection-base t)
    → (i : ℕ) → member c.intersection-base.result i ≡ true → Closed (problem_of c.args.entries.now c.args.q) i
kept_closed t c = λ i h. c.closed.ensures i (both_parts true (member c.closed.result i) _ (rw c.intersection-base.ensures at h)).0

-- they are asked for
kept_all : (t : ℕ) (c : goal.opposed-After-intersection-base t)
    → Within (member c.intersection-base.result) (member c.args.all)
kept_all t c = λ i h. (both_parts true (member c.closed.result i) _ (rw c.intersection-base.ensures at h)).1

pub opposed-keeps-requires : goal.opposed-keeps-requires
opposed-keeps-requires t c =
    let asked = c.requires in
    let loop = c.loop-i in (
      omega (arith, c.decreases),
      record {
        promising = pair_asked asked _ _ _ _ _ c.pair.ensures c.union-both.ensures (kept_all t (goal.at.opposed-keeps-requires t c).After-intersection-base) (loop.invariant.0 _ (first_in t (goal.at.opposed-keeps-requires t c).In-Some)) (loop.invariant.1 _ (second_in t (goal.at.opposed-keeps-requires t c).In-Some-highest));
        deep = asked.deep;
        room = room_kept loop.invariant.2 asked.room;
        memory = loop.invariant.4;
      },
    )

pub opposed-shape_of-work-then-not-keeps : goal.opposed-shape_of-work-then-not-keeps
opposed-shape_of-work-then-not-keeps t c = c.learn_refuted.auto.work ∙ c.keeps.auto.work ∙ c.loop-i.invariant.2

pub opposed-returns-then-not-keeps : goal.opposed-returns-then-not-keeps
opposed-returns-then-not-keeps t c =
    record {
      answers = λ e. pair_opposed _ _ _ _ _ _ c.pair.ensures c.union-both.ensures (kept_closed t (goal.at.opposed-returns-then-not-keeps t c).After-intersection-base) (c.exceeds.ensures c.if-exceeds.true) (rw c.if-not-keeps.true at c.keeps.ensures.answers);
      same = c.learn_refuted.ensures.same ∙ c.keeps.ensures.same ∙ c.loop-i.invariant.3;
      memory = c.learn_refuted.ensures.memory;
    }

pub opposed-loop-i-smaller-else-not-keeps : goal.opposed-loop-i-smaller-else-not-keeps
opposed-loop-i-smaller-else-not-keeps t c = rw c.without-limits.ensures (omega (arith, count_removed (member c.loop-i.limits) _ (second_in t (goal.at.opposed-loop-i-smaller-else-not-keeps t c).In-Some-highest) (second_below t (goal.at.opposed-loop-i-smaller-else-not-keeps t c).In-Some-highest)))

pub opposed-loop-i-preserved-else-not-keeps : goal.opposed-loop-i-preserved-else-not-keeps
opposed-loop-i-preserved-else-not-keeps t c = (
  c.loop-i.invariant.0,
  rw c.without-limits.ensures (within_removed _ c.loop-i.invariant.1),
  c.keeps.auto.work ∙ c.loop-i.invariant.2,
  c.keeps.ensures.same ∙ c.loop-i.invariant.3,
  c.keeps.ensures.memory,
)

pub opposed-loop-i-smaller-else-exceeds : goal.opposed-loop-i-smaller-else-exceeds
opposed-loop-i-smaller-else-exceeds t c = rw c.without-limits.ensures (omega (arith, count_removed (member c.loop-i.limits) _ (second_in t (goal.at.opposed-loop-i-smaller-else-exceeds t c).In-Some-highest) (second_below t (goal.at.opposed-loop-i-smaller-else-exceeds t c).In-Some-highest)))

pub opposed-loop-i-preserved-else-exceeds : goal.opposed-loop-i-preserved-else-exceeds
opposed-loop-i-preserved-else-exceeds t c = (c.loop-i.invariant.0, rw c.without-limits.ensures (within_removed _ c.loop-i.invariant.1), c.loop-i.invariant.2, c.loop-i.invariant.3, c.loop-i.invariant.4)

pub opposed-loop-i-smaller : goal.opposed-loop-i-smaller
opposed-loop-i-smaller t c =
    rw c.without-needs.ensures
    (omega (arith, count_removed (member c.loop-i.needs) _ (first_in t (goal.at.opposed-loop-i-smaller t c).In-Some) (first_below t (goal.at.opposed-loop-i-smaller t c).In-Some), count_le (member c.args.all) (length c.args.entries.now), c.requires.promising.few))

pub opposed-loop-i-preserved : goal.opposed-loop-i-preserved
opposed-loop-i-preserved t c = (rw c.without-needs.ensures (within_removed _ c.loop-i.invariant.0), λ i h. h, c.loop-i.invariant.2, c.loop-i.invariant.3, c.loop-i.invariant.4)

pub opposed-learn_refuted-requires : goal.opposed-learn_refuted-requires
opposed-learn_refuted-requires t c =
    let promising = c.requires.promising in
    let refused : c.keeps.result ≡ false = assumption in
    record {
      none = pair_alone c.args.entries.now c.narrowed.ensures _ _ _ _ c.pair.ensures c.union-both.ensures (kept_closed t (goal.at.opposed-learn_refuted-requires t c).After-intersection-base) (c.exceeds.ensures c.if-exceeds.true) (rw refused at c.keeps.ensures.answers);
      formed = promising.formed;
      small = record { few = promising.few; below = λ b i h. promising.below b i (narrowed_fewer c.narrowed.ensures b i h) };
      room = room_kept (c.keeps.auto.work ∙ c.loop-i.invariant.2) c.requires.room;
      memory = c.keeps.ensures.memory;
    }

-- ---- keeps

pub keeps-memory-from-requires : goal.keeps-memory-from-requires
keeps-memory-from-requires t c = room_reckoned c.requires.room (omega arith)

pub keeps-returns-in-Some : goal.keeps-returns-in-Some
keeps-returns-in-Some t c =
    let a = c.args in
    let asked = c.requires in
    let parts = c.parts_of-wanted.ensures in
    record {
      answers = parts_fit (problem_of a.entries.now a.q) a.promises asked.promising parts.0 parts.1 c.in-Some.known (c.in-Some.ensures (wide_in a.entries.now) (rw c.memory-from.ensures asked.memory));
      same = refl;
      memory = asked.memory;
    }

pub keeps-returns : goal.keeps-returns
keeps-returns t c =
    let a = c.args in
    let parts = c.parts_of-wanted.ensures in
    let kept = c.deeper-found.ensures in
    let stored = c.remember.ensures in
    let told = fit_parts (problem_of a.entries.now a.q) a.promises c.requires.promising parts.0 parts.1 c.deeper-found.result kept.answers in
    record {
      answers = kept.answers;
      same = next_same a.level.depth a.level.size c.remember.new.words c.deeper-found.new.work a.work.now (rw c.memory-from.ensures at stored.same) kept.same;
      memory = rw c.memory-from.ensures at (stored.memory (wide_in a.entries.now) (rw c.memory-from.ensures kept.memory) told);
    }

-- ---- deeper

-- what the promises have come to
made : (t : ℕ) (c : goal.deeper-In-Some t)
    → Promised (problem_of c.args.entries.now c.args.q) (member c.args.promises) (c.args.level.depth - 1) c.in-Some.v
made t c = c.in-Some.ensures

pub deeper-returns : goal.deeper-returns
deeper-returns t c =
    let a = c.args in
    let asked = c.requires in
    let worked = c.world.new.work in
    record {
      answers = promised_fit (problem_of a.entries.now a.q) a.promises (a.level.depth - 1) asked.promising (made t (goal.at.deeper-returns t c).In-Some) c.world.result c.world.ensures.0;
      same = take_put a.level.size (length a.work.now - a.level.size) a.work.now worked (room_level asked.room);
      memory = memory_above (wide_in a.entries.now) a.work.now a.level.depth a.level.size asked.deep (room_level asked.room) worked
          (rw (c.deeper.ensures.0, c.deeper.ensures.1) at c.world.ensures.1);
    }

pub deeper-returns-in_default : goal.deeper-returns-in_default
deeper-returns-in_default t c =
    record {
      answers = promised_unfit (problem_of c.args.entries.now c.args.q) c.args.promises c.in_default.ensures;
      same = refl;
      memory = c.requires.memory;
    }

pub deeper-world-requires : goal.deeper-world-requires
deeper-world-requires t c =
    let a = c.args in
    let asked = c.requires in (
      omega (arith, c.decreases, asked.deep, c.deeper.ensures.0),
      rw (c.deeper.ensures.0, c.deeper.ensures.1) (record {
        ready = (made t (goal.at.deeper-world-requires t c).In-Some).ready;
        small = omega arith;
        room = room_kept (length_behind a.work.now a.level.size) (room_below asked.room asked.deep);
        memory = memory_below (wide_in a.entries.now) a.work.now a.level.depth a.level.size asked.deep (room_level asked.room) asked.memory;
      }),
    )

pub deeper-offset_bounds-work-level : goal.deeper-offset_bounds-work-level
deeper-offset_bounds-work-level t c = search (rules, room_level)

pub deeper-slice_bounds-world-count : goal.deeper-slice_bounds-world-count
deeper-slice_bounds-world-count t c = search (rules, room_level)

pub deeper-slice_bounds-world-start : goal.deeper-slice_bounds-world-start
deeper-slice_bounds-world-start t c = search (rules, room_level)
