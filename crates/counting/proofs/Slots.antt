-- Slots in words: what a slot that is written changes, and what it leaves.
use mathlib.Core.Path.{◌≡◌, refl, ap, ap₂, ◌∙◌}
use mathlib.Core.Logic.{⊎_elim}
use mathlib.Core.Bool.{Bool, true, false}
use mathlib.Core.List.{List, ◌∷◌}
use Prim.Native.Nat.{ℕ, zero, suc, ◌+◌, ◌*◌, ◌<◌, ◌≤◌, zero-le}
use native.Mathlib.Nat.{eq-or-lt_of_le, le_of_suc-le-suc, le_refl}
use native.Mathlib.Omega.{arith}
use lib.ListN.{length, set, length-set}
use lib.Seq.{get_or-set_same, get_or-set_other}
use Rattle.semantics.specs.Count.{gain}
use Rattle.tableau.specs.Search.{Slot, taken}
use Rattle.counting.specs.Stack.{slot_at, slots_of, FewCopies, Put}

pub gain_le : (b : Bool) (m : ℕ) → gain b m ≤ m
gain_le true m = le_refl m
gain_le false m = zero-le

pub length_slots : (words : List ℕ) (k : ℕ) → length (slots_of words k) ≡ k
unfolding slots_of
length_slots words zero = refl
length_slots words (suc k) = ap suc (length_slots words k)

-- the same words, the same slots
pub slots_same : (words others : List ℕ) (k : ℕ) → ((j : ℕ) → j < k → slot_at others j ≡ slot_at words j) → slots_of others k ≡ slots_of words k
unfolding slots_of
slots_same words others zero h = refl
slots_same words others (suc k) h =
    ap₂ (λ (s : Slot) (l : List Slot). s ∷ l) (h k (omega arith)) (slots_same words others k (λ j l. h j (omega arith)))

pub put_made : (words : List ℕ) (k b m : ℕ) → 2 * k + 2 ≤ length words → Put words k b m (set (set words (2 * k) b) (2 * k + 1) m)
put_made words k b m room =
    let once = set words (2 * k) b in
    let earlier : (i : ℕ) → i < 2 * k → _ =
    λ i l. get_or-set_other once (2 * k + 1) i m 0 (omega arith) ∙ get_or-set_other words (2 * k) i b 0 (omega arith) in
    record {
      same_length = simp length-set;
      here = ap₂ taken
          (get_or-set_other once (2 * k + 1) (2 * k) m 0 (omega arith) ∙ get_or-set_same words (2 * k) b 0 (omega arith))
          (get_or-set_same once (2 * k + 1) m 0 (simp length-set (omega arith)));
      below = λ j l. ap₂ taken (earlier (2 * j) (omega arith)) (earlier (2 * j + 1) (omega arith));
      behind = λ i l. get_or-set_other once (2 * k + 1) i m 0 (omega arith) ∙ get_or-set_other words (2 * k) i b 0 (omega arith);
    }

module _ {words after : List ℕ} {k b m : ℕ} (put : Put words k b m after) where
  pub put_slots : slots_of after (suc k) ≡ taken b m ∷ slots_of words k
  unfolding slots_of
  put_slots = ap₂ (λ (s : Slot) (l : List Slot). s ∷ l) put.here (slots_same words after k put.below)

  pub put_copies : m ≤ 4096 → FewCopies words k → FewCopies after (suc k)
  put_copies small few j l =
      ⊎_elim
      (λ (e : j ≡ k). rw e (omega (arith, ap (λ (s : Slot). s.copies) put.here)))
      (λ (less : j < k). omega (arith, ap (λ (s : Slot). s.copies) (put.below j less), few j less))
      (eq-or-lt_of_le (le_of_suc-le-suc l))
