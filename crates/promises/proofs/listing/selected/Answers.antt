-- `selected` meets its contract: the words of all levels are lent to the search, and the answers behind them stay.
use mathlib.Core.Path.{◌≡◌, sym, ◌∙◌}
use native.Mathlib.Nat.{suc-mul}
use native.Mathlib.Omega.{arith}
use lib.ListN.{length, take}
use lib.Seq.{length-take-le}
use Rattle.wide.specs.Wide.{wide_in}
use Rattle.cases.proofs.Recalling.{memory_levels}
use Rattle.promises.specs.Listing.{list_of}
use Rattle.promises.proofs.Lent.{list_lent}
use Rattle.promises.proofs.listing.selected.Goals as goal
use Rattle.promises.proofs.listing.selected.Goals.{After-memory-reach, After-solved-arg-1}

pub slice_bounds-solved-end : goal.slice_bounds-solved-end
slice_bounds-solved-end c = let a = c.args in omega (arith, c.memory-reach.ensures, c.requires.room.levels)

pub slice_bounds-solved-end-2 : goal.slice_bounds-solved-end-2
slice_bounds-solved-end-2 c = let a = c.args in sym (length-take-le c.memory-reach.result a.work.now (slice_bounds-solved-end (goal.at.slice_bounds-solved-end-2 c).After-memory-reach))

-- the list, as it is lent
lent_list : (c : goal.After-memory-reach) → list_of (length c.args.entries.now) c.args.level.size (take c.memory-reach.result c.args.work.now) c.args.k
    ≡ list_of (length c.args.entries.now) c.args.level.size c.args.work.now c.args.k
lent_list c =
    let a = c.args in
    let asked = c.requires in
    list_lent (length a.entries.now) a.k a.level.size c.memory-reach.result a.work.now asked.lists.some (omega (arith, asked.room.stack)) (omega (arith, c.memory-reach.ensures, suc-mul a.level.depth a.level.size))

pub solved-requires : goal.solved-requires
solved-requires c =
    let asked = c.requires in
    record {
      problem = asked.problem;
      all_asking = asked.all_asking;
      behind = record {
        room = rw c.place-at.ensures (omega (arith, asked.room.stack));
        inside = rw (c.place-at.ensures, ← (slice_bounds-solved-end-2 c)) (omega (arith, asked.lists.some));
      };
      fit = rw (c.place-at.ensures, lent_list (goal.at.solved-requires c).After-memory-reach) asked.lists.fit;
    }

pub returns : goal.returns
returns c =
    let a = c.args in (
      rw (c.place-at.ensures, lent_list (goal.at.returns c).After-memory-reach) at c.solved.ensures,
      memory_levels (wide_in a.entries.now) a.work.now c.solved.new.words a.level.depth a.level.size _ c.memory-reach.ensures (c.solved.auto.words ∙ sym (slice_bounds-solved-end-2 (goal.at.returns c).After-solved-arg-1)) c.requires.memory,
    )
