-- Two listed sets change places before the search goes on, and change back after it.
-- Why: how often each listed set is taken makes an extension, not in which order they are listed.
use mathlib.Core.Path.{◌≡◌, refl, sym, ap, ◌∙◌}
use mathlib.Core.Logic.{by_cases}
use mathlib.Core.Logic.◌⊎◌.{inl, inr}
use mathlib.Core.Bool.{Bool, true, false}
use mathlib.Core.List.{List}
use Prim.Native.Nat.{ℕ, suc, ◌+◌, ◌<◌, ◌≤◌}
use native.Mathlib.Nat.{add-zero}
use native.Mathlib.Decide.{ℕ_discrete}
use native.Mathlib.Omega.{arith}
use lib.ListN.{length, get_or}
use Rattle.std.specs.List.{SwappedAt}
use Rattle.sets.specs.declared.Set.{Set}
use Rattle.semantics.specs.Answer.{Answers}
use Rattle.tableau.specs.Search.{Slot, Problem, Extension}
use Rattle.tableau.specs.Search.Choice.{done, some}
use Rattle.tableau.specs.Listed.{In}
use Rattle.tableau.proofs.Extend.{ext_done, ext_inserted}
use Rattle.counting.specs.Stack.{slots_of}
use Rattle.listed.specs.Codes.{codes_from}
use Rattle.listed.proofs.Codes.{code_listed, listed_place}
use Rattle.relaxing.specs.Relaxing.{SameBelow}
use Rattle.selection.specs.Selecting.{Selecting, Swapped, Unchanged, Selected}
use Rattle.relaxing.proofs.Below.{slot_below}
use Rattle.selection.proofs.Selecting.{same_slots, selecting_same, selecting_space}

-- sets that are all listed elsewhere can be taken from there
extension_moved : {P : Problem} {list : List ℕ} {slots : List Slot} (other : List ℕ) → ((c : ℕ) → In c list → In c other) → Extension P slots list
    → Extension P slots other
extension_moved other listed (done met kept) = ext_done met kept other
extension_moved other listed (some {b = b} m ok e) = ext_inserted other (listed b (inl refl)) tt (extension_moved other (λ c here. listed c (inr here)) e)

pub swapped_made : {before after : List ℕ} {i j : ℕ} → SwappedAt before after i j → Swapped before i j after
swapped_made s = record { first = s.0 0; second = s.1 0; elsewhere = λ l not-i not-j. s.2 l 0 not-i not-j }

module _ {before after : List ℕ} {at j k : ℕ} (few : j < k) where
  swapped_listed : Swapped before at (at + j) after → (c : ℕ) → In c (codes_from before at k) → In c (codes_from after at k)
  swapped_listed swapped c here =
      let (l, inside, e) = listed_place before at k here in
      by_cases (ℕ_discrete l j)
      (λ (is : l ≡ j).
      let start : at + 0 ≡ at = add-zero at in
      rw (e ∙ ap (λ (n : ℕ). get_or before (at + n) 0) is ∙ sym swapped.first ∙ ap (λ (n : ℕ). get_or after n 0) (sym start)) (code_listed after at k 0 (omega arith)))
      (λ (not-j : ¬ (l ≡ j)).
      by_cases (ℕ_discrete l 0)
      (λ (is : l ≡ 0).
      let start : at + l ≡ at = omega arith in
      rw (e ∙ ap (λ (n : ℕ). get_or before n 0) start ∙ sym swapped.second) (code_listed after at k j few))
      (λ (not_first : ¬ (l ≡ 0)). rw (e ∙ sym (swapped.elsewhere (at + l) (λ q. not_first (omega arith)) (λ q. not-j (omega arith)))) (code_listed after at k l inside)))

-- the exchange, made undone
swapped_sym : {before after : List ℕ} {i j : ℕ} → Swapped before i j after → Swapped after i j before
swapped_sym s = record { first = sym s.second; second = sym s.first; elsewhere = λ l not-i not-j. sym (s.elsewhere l not-i not-j) }

module _ {P : Problem} {all : Set} {before words : List ℕ} {at k slots j : ℕ} (s : Selecting P all before at (suc k) slots) (few : j ≤ k)
    (swapped : Swapped before at (at + j) words) where
  same_below : SameBelow at before words
  same_below = record { word = λ i l. swapped.elsewhere i (omega arith) (omega arith) }

  swapped_unchanged : Unchanged P slots at before words
  swapped_unchanged = record { below = slot_below same_below slots (selecting_space s); above = λ i l e. same_below.word i e }

  pub swapped_selecting : length words ≡ length before → Selecting P all words at (suc k) slots
  swapped_selecting same_length = selecting_same swapped_unchanged same_length s

  module _ {after last : List ℕ} (back : Swapped after at (at + j) last) where
    below_back : SameBelow at after last
    below_back = record { word = λ i l. back.elsewhere i (omega arith) (omega arith) }

    -- what is unchanged while they are exchanged is unchanged when they are back
    unchanged_back : Unchanged P slots (at + suc k) words after → Unchanged P slots (at + suc k) before last
    unchanged_back u = record {
      below = λ i l. slot_below below_back slots (selecting_space s) i l ∙ u.below i l ∙ swapped_unchanged.below i l;
      above = λ i room inside.
          by_cases (ℕ_discrete i at)
          (λ (is : i ≡ at).
          rw is (back.first ∙ u.above (at + j) (omega (arith, s.behind.room)) (omega arith) ∙ swapped.second))
          (λ (not_first : ¬ (i ≡ at)).
          by_cases (ℕ_discrete i (at + j))
          (λ (is : i ≡ at + j). rw is (back.second ∙ u.above at s.behind.room (omega arith) ∙ swapped.first))
          (λ (not-j : ¬ (i ≡ at + j)). back.elsewhere i not_first not-j ∙ u.above i room inside ∙ swapped.elsewhere i not_first not-j));
    }

    pub selected_back : (r : Bool) → Selected P words at (suc k) slots r after → Selected P before at (suc k) slots r last
    selected_back r found = record { answers = by_answer r (rw (same_slots swapped_unchanged) at found.answers); unchanged = unchanged_back found.unchanged }
      where
        by_answer : (r : Bool) → Answers r (Extension P (slots_of before slots) (codes_from words at (suc k)))
            → Answers r (Extension P (slots_of before slots) (codes_from before at (suc k)))
        by_answer true e = extension_moved _ (swapped_listed (omega arith) (swapped_sym swapped)) e
        by_answer false un = λ e. un (extension_moved _ (swapped_listed (omega arith) swapped) e)
