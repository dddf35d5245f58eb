use mathlib.Core.Path.{◌≡◌, refl, sym, ap, ap₂, ◌∙◌}
use mathlib.Core.Bool.{Bool}
use Prim.Native.Nat.{ℕ, ◌*◌, ◌^◌}
use native.Mathlib.Numerals.{add-one}
use native.Mathlib.Omega.{arith}
use lib.Bits.{bit_and, bit_or}
use lib.Count.{ones}
use lib.Dec.{leb}
use borrow.Author.Rules.{rules}
use borrow.Author.Tests.{lt-leb}
use Rattle.semantics.specs.Count.{bit}
use Rattle.semantics.specs.Structure.{Structure, successors}
use Rattle.semantics.proofs.Sum.{sum_same}
use Rattle.sets.specs.Word.{word}
use Rattle.sets.proofs.Words.{word_next, word_short}
use Rattle.truth_table.specs.Masks.{LinkRow}
use Rattle.truth_table.proofs.Counting.{counted, none_counted}
use Rattle.truth_table.proofs.entry_word.Grid.enough.Goals as goal
use Rattle.truth_table.proofs.entry_word.Grid.enough.Goals.{After-counted-n}

pub loop-w-init : goal.loop-w-init
unfolding word
loop-w-init c = (search rules, λ s relation p row h. refl)

-- what is counted at the world w
here : (c : goal.After-counted-n) (s : Structure) (relation : ℕ) (p : ℕ → Bool)
    → let a = c.args in
    LinkRow s relation a.at a.self → a.part ≡ word p s.worlds
    → c.counted-n.result ≡ successors s relation c.loop-w.w p
here c s relation p row h =
    let w = c.loop-w.w in
    c.counted-n.ensures
    ∙ sum_same c.args.self.levels (λ t l. ap₂ (λ (x y : ℕ). ones (bit_and x y)) (row.below w t (omega (arith, c.loop-w-test.true)) l) h)
    ∙ counted s relation p w c.requires.0.few (row.above w)

pub loop-w-preserved : goal.loop-w-preserved
loop-w-preserved c =
    let l = c.loop-w in
    let a = c.args in (
      search rules,
      λ s relation p row h.
          rw add-one (ap₂ bit_or (l.invariant.1 s relation p row h) (c.at_world-holds.ensures ∙ ap (λ (n : ℕ). bit (leb a.grade n) * 2 ^ l.w) (here (goal.at.loop-w-preserved c).After-counted-n s relation p row h))
          ∙ word_next _ l.w),
    )

pub returns : goal.returns
returns c s relation p row h =
    let a = c.args in
    let l = c.loop-w in
    let e : l.w ≡ a.self.width = omega (arith, c.loop-w-test.false, l.invariant.0) in
    (rw e at (l.invariant.1 s relation p row h))
    ∙ sym (word_short row.narrow (λ v b l.
    lt-leb a.grade (successors s relation v p) (omega (arith, c.requires.2, none_counted s relation p v (λ t. row.behind v t b l)))))
