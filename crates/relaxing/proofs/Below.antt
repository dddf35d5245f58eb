-- The words from a place on are written, and those below are as before: so are the slots and the codes that stand there.
use mathlib.Core.Path.{◌≡◌, refl, ap, ap₂, sym, ◌∙◌}
use mathlib.Core.List.{List}
use Prim.Native.Nat.{ℕ, ◌+◌, ◌-◌, ◌*◌, ◌<◌, ◌≤◌}
use native.Mathlib.Omega.{arith}
use lib.ListN.{length, get_or, set}
use lib.Seq.{get_or-take, get_or-set_other}
use borrow.Rule.Slice.PartMut.{put_mid, take_put}
use Rattle.tableau.specs.Search.{Slot, taken, Problem}
use Rattle.counting.specs.Stack.{slot_at, slots_of, Few}
use Rattle.counting.proofs.Slots.{slots_same}
use Rattle.listed.specs.Codes.{codes_from}
use Rattle.listed.proofs.Codes.{codes_alike}
use Rattle.relaxing.specs.Relaxing.{Relaxing, Scratch, SameBelow}

module _ {end : ℕ} where
  pub below_none : {words : List ℕ} → SameBelow end words words
  below_none = record { word = λ i l. refl }

  pub below_then : {before words after : List ℕ} → SameBelow end before words → SameBelow end words after → SameBelow end before after
  below_then b c = record { word = λ i l. c.word i l ∙ b.word i l }

  pub below_less : {less : ℕ} {before after : List ℕ} → less ≤ end → SameBelow end before after → SameBelow less before after
  below_less le b = record { word = λ i l. b.word i (omega arith) }

  pub below_set : (words : List ℕ) (i v : ℕ) → end ≤ i → SameBelow end words (set words i v)
  below_set words i v le = record { word = λ j l. get_or-set_other words i j v 0 (omega arith) }

  -- the words from the place on were lent
  pub below_put : (words part : List ℕ) → end ≤ length words → SameBelow end words (put_mid end (length words - end) words part)
  below_put words part le =
      let whole : List ℕ = put_mid end (length words - end) words part in
      record {
        word = λ i l.
            sym (get_or-take end whole i 0 l) ∙ ap (λ (t : List ℕ). get_or t i 0) (take_put end (length words - end) words part le) ∙ get_or-take end words i 0 l;
      }

  module _ {before after : List ℕ} (same : SameBelow end before after) where
    module _ (slots : ℕ) (below : 2 * slots ≤ end) where
      pub slot_below : (j : ℕ) → j < slots → slot_at after j ≡ slot_at before j
      slot_below j l = ap₂ taken (same.word (2 * j) (omega arith)) (same.word (2 * j + 1) (omega arith))

      pub slots_below : slots_of after slots ≡ slots_of before slots
      slots_below = slots_same before after slots slot_below

      pub few_below : Few before slots → Few after slots
      few_below few = record { slots = few.slots; copies = λ j l. omega (arith, ap (λ (t : Slot). t.copies) (slot_below j l), few.copies j l) }

    pub codes_below_kept : (at k : ℕ) → at + k ≤ end → codes_from after at k ≡ codes_from before at k
    codes_below_kept at k inside = codes_alike before after at k (λ j l. same.word (at + j) (omega arith))

pub scratch_same : {before after : List ℕ} {slots end : ℕ} → length after ≡ length before → SameBelow end before after → Scratch before slots end
    → Scratch after slots end
scratch_same {slots = slots} longs same s = record { few = few_below same slots s.below s.few; below = s.below; room = omega (arith, s.room, longs) }

pub relaxing_same : {P : Problem} {before after : List ℕ} {at k slots : ℕ} → length after ≡ length before → SameBelow (at + k) before after
    → Relaxing P before at k slots → Relaxing P after at k slots
relaxing_same {slots = slots} longs same s = record {
  problem = s.problem;
  few = few_below same slots (omega (arith, s.below)) s.few;
  below = s.below;
  inside = omega (arith, s.inside, longs);
}
