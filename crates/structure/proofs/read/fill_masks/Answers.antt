use mathlib.Core.Path.{◌≡◌, refl, sym, ap, ◌∙◌}
use Prim.Native.Nat.{ℕ}
use native.Mathlib.Numerals.{add-one}
use native.Mathlib.Omega.{arith}
use lib.Bits.{bit_or}
use borrow.Author.Rules.{rules}
use Rattle.sets.specs.Word.{word}
use Rattle.structure.specs.Record.{record_in, records, worlds_of}
use Rattle.structure.specs.Read.{stated}
use Rattle.structure.specs.Masks.{stated_by}
use Rattle.structure.proofs.Stated.{some_word_none, some_word_more}
use Rattle.structure.proofs.Masks.{all_stated}
use Rattle.structure.proofs.read.fill_masks.Goals as goal
use Rattle.structure.proofs.read.fill_masks.Goals.{Start}

pub loop-i-init : goal.loop-i-init
loop-i-init c = (search rules, refl, λ k name v t placed. c.requires.3 _ ∙ sym (some_word_none _ _))

pub add_record-requires : goal.add_record-requires
unfolding stated
add_record-requires c =
    let s = (goal.at.add_record-requires c).Start in
    (s.requires.0, search rules, s.requires.1, rw c.loop-i.invariant.1 s.requires.2)

pub loop-i-preserved : goal.loop-i-preserved
loop-i-preserved c =
    let l = c.loop-i in
    let row = record_in c.args.bytes.now in (
      search rules,
      c.add_record.auto.masks ∙ l.invariant.1,
      λ k name v t placed.
          rw (add-one l.i) (c.add_record.ensures k name v t placed
          ∙ ap (λ (x : ℕ). bit_or x (word (stated_by (row l.i) k name v t) (worlds_of row))) (l.invariant.2 k name v t placed)
          ∙ some_word_more (λ j. stated_by (row j) k name v t) l.i (worlds_of row)),
    )

pub returns : goal.returns
unfolding stated
returns c k name v t placed =
    let s = (goal.at.returns c).Start in
    let e : c.loop-i.i ≡ records s.args.bytes.now = omega arith in
    (rw e at (c.loop-i.invariant.2 k name v t placed)) ∙ all_stated s.args.bytes.now k name v t
