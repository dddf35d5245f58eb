-- `weighs` meets its contract: the words of all levels are lent, and the list and the answers behind them stay.
use mathlib.Core.Path.{sym, ◌∙◌}
use native.Mathlib.Nat.{suc-mul}
use native.Mathlib.Omega.{arith}
use lib.Seq.{length-take-le}
use Rattle.wide.specs.Wide.{wide_in}
use Rattle.counting.specs.Question.{problem_of}
use Rattle.cases.proofs.Recalling.{memory_levels}
use Rattle.promises.proofs.Lent.{lists_lent}
use Rattle.promises.proofs.listing.weighs.Goals as goal
use Rattle.promises.proofs.listing.weighs.Goals.{After-memory-reach, After-weights-arg-1}

pub slice_bounds-weights-end : goal.slice_bounds-weights-end
slice_bounds-weights-end c = let a = c.args in omega (arith, c.memory-reach.ensures, c.requires.room.levels)

pub slice_bounds-weights-end-2 : goal.slice_bounds-weights-end-2
slice_bounds-weights-end-2 c = let a = c.args in sym (length-take-le c.memory-reach.result a.work.now (slice_bounds-weights-end (goal.at.slice_bounds-weights-end-2 c).After-memory-reach))

pub returns : goal.returns
returns c =
    let a = c.args in
    let asked = c.requires in
    let front = c.weights.new.words in
    let as_many = c.weights.auto.words ∙ sym (slice_bounds-weights-end-2 (goal.at.returns c).After-weights-arg-1) in
    let P = problem_of a.entries.now a.q in
    record {
      lists = lists_lent P a.work.now front (omega (arith, asked.room.stack)) (omega (arith, c.memory-reach.ensures, suc-mul a.level.depth a.level.size)) as_many (rw c.place-at.ensures at c.weights.ensures) asked.lists;
      memory = memory_levels (wide_in a.entries.now) a.work.now front a.level.depth a.level.size _ c.memory-reach.ensures as_many asked.memory;
    }
