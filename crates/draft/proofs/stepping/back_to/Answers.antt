-- `back_to` meets its contract: the parts of the draft.
use mathlib.Core.Path.{◌≡◌, refl, ap, ◌∙◌}
use mathlib.Core.Bool.{Bool, true, false}
use mathlib.Core.List.{List}
use Prim.Native.Nat.{ℕ, ◌+◌, ◌-◌, ◌<◌, ◌≤◌}
use native.Mathlib.Omega.{arith}
use lib.Dec.{ltb}
use lib.ListN.{length, get_or, drop, replicate, length-take, length-drop}
use borrow.Author.Rules.{rules}
use borrow.Author.Tests.{ltb-true, ltb-false}
use borrow.Rule.Slice.PartMut.{put_mid, mid_of}
use Rattle.std.proofs.lemmas.List.{get_or-replicate, length-replicate}
use Rattle.std.specs.Prelude.{if◌then◌else◌}
use Rattle.history.specs.Stepping.{leading_words}
use Rattle.history.proofs.Lists.{is_listed, part_before, part_inside, part_long}
use Rattle.history.proofs.Steps.{same_draft}
use Rattle.draft.proofs.stepping.back_to.Goals as goal

-- words of which those from a place on were cleared
module _ (many : ℕ) (words left : List ℕ) (long : length words ≡ 64) (few : many ≤ 64) (zeros : left ≡ replicate (length (mid_of many (length words - many) words)) 0) where
  room : length (mid_of many (length words - many) words) ≡ 64 - many
  room = omega (arith, length-drop many words, length-take (length words - many) (drop many words))

  size : length left ≡ 64 - many
  size = ap length zeros ∙ length-replicate {A = ℕ} (length (mid_of many (length words - many) words)) 0 ∙ room

  behind : (i : ℕ) → i < 64 - many → get_or left i 0 ≡ 0
  behind i h = rw zeros (get_or-replicate (length (mid_of many (length words - many) words)) i 0 0 (omega (arith, room)))

  word : (i : ℕ) → i < 64 → (b : Bool) → ltb i many ≡ b
      → get_or (put_mid many (length words - many) words left) i 0 ≡ (if b then get_or words i 0 else 0)
  word i h true is = part_before many (length words - many) words left (omega arith) i (ltb-true i many is)
  word i h false is =
      let past = ltb-false i many is in
      let at : many + (i - many) ≡ i = omega arith in
      rw at at (part_inside many (length words - many) words left (omega arith) (i - many) (omega (arith, size))) ∙ behind (i - many) (omega arith)

  cleared : put_mid many (length words - many) words left ≡ leading_words many words
  cleared =
      is_listed (put_mid many (length words - many) words left) (λ i. if ltb i many then get_or words i 0 else 0) 64
      (part_long many (length words - many) words left (omega arith) (omega (arith, size)) refl ∙ long)
      (λ i h. word i h (ltb i many) refl)

pub returns : goal.returns
returns c =
    same_draft (cleared _ _ _ (search rules) c.requires.1 (c.fill.ensures.after (λ y same. same))) c.forget.ensures refl
