-- What a text with a tree is refused for, from what the survey counts in it.
use mathlib.Core.Path.{◌≡◌, refl, sym, ◌∙◌}
use mathlib.Core.Logic.{inr}
use mathlib.Core.Bool.{Bool, true, false, ◌||◌}
use mathlib.Core.List.{List}
use Prim.Native.Nat.{ℕ, ◌*◌, ◌<◌, ◌≤◌}
use native.Mathlib.Omega.{arith}
use lib.Dec.{ltb}
use lib.ListN.{length}
use borrow.Author.Tests.{lt-ltb, le-ltb}
use Rattle.faults.specs.declared.Fault.TheVariants.{Space, TextLimit}
use Rattle.postorder.specs.Order.{size}
use Rattle.grammar.specs.Tree.{formula}
use Rattle.survey.specs.declared.Counted.{Counted}
use Rattle.survey.specs.Survey.{SurveyIs}
use Rattle.std.specs.Prelude.{Some, Ok}
use Rattle.typed.specs.Written.{over_limit}
use Rattle.typed.specs.Writing.{Writable, WrittenFor}
use Rattle.typed.specs.Reading.{RefusedFor, ReadingIs}
use Rattle.typed.proofs.Counted.{entries_size}
use Rattle.typed.proofs.Progress.{within}

module _ (text : List ℕ) (counted : Counted) (inside : SurveyIs text (Some counted)) where
  counts : counted.entries ≡ size (formula inside.0)
  counts = inside.2 ∙ entries_size inside.0

  -- the test of the limits is the tree's
  over_is : {q : Bool} → q ≡ ltb 1024 (length text) || counted.over || ltb 64 counted.entries → q ≡ over_limit text inside.0
  over_is is = is ∙ rw (inside.3, counts) refl

  module _ (lent : ℕ) {q : Bool} (test : q ≡ ltb 1024 (length text) || counted.over || ltb 64 counted.entries) where
    pub over_refused : q ≡ true → RefusedFor text lent TextLimit
    over_refused found =
        let is : over_limit text inside.0 ≡ true = sym (over_is test) ∙ found in
        inr (inside.0, inside.1, rw is refl)

    module _ (ok : q ≡ false) where
      limits : over_limit text inside.0 ≡ false
      limits = sym (over_is test) ∙ ok

      pub few : counted.entries ≤ 64
      few = omega (arith, (within text inside.0 limits).few, counts)

      pub space_refused : lent < 4 * counted.entries → RefusedFor text lent Space
      space_refused short =
          let none : over_limit text inside.0 ≡ false = limits in
          let is : ltb lent (4 * size (formula inside.0)) ≡ true = lt-ltb lent (4 * size (formula inside.0)) (omega (arith, counts)) in
          inr (inside.0, inside.1, rw (none, is) refl)

      pub writable : (table : List ℕ) → length table ≡ lent → 4 * counted.entries ≤ lent → Writable text table
      writable table same enough =
          record { tree = inside.0; fits = inside.1; limits = limits; lent = omega (arith, counts) }

      pub answered : (before after : List ℕ) → length before ≡ lent → 4 * counted.entries ≤ lent → WrittenFor text before after → ReadingIs text before after (Ok counted.entries)
      answered before after same enough written =
          let none : over_limit text inside.0 ≡ false = limits in
          let is : ltb (length before) (4 * size (formula inside.0)) ≡ false = le-ltb (length before) (4 * size (formula inside.0)) (omega (arith, counts)) in
          (inside.0, inside.1, rw (none, is) refl, counts, written inside.0 inside.1)
