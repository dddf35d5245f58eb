-- The search over a list of sets in words, step by step.
-- Why: a slot is written only below the room of the stack, and the relaxation writes only behind the list, so the slots and the codes stay as they are.
use mathlib.Core.Path.{◌≡◌, refl, ap, ◌∙◌}
use mathlib.Core.Bool.{Bool, true, false}
use mathlib.Core.List.{List, [], ◌∷◌}
use Prim.Native.Nat.{ℕ, suc, ◌+◌, ◌*◌, ◌≤◌}
use native.Mathlib.Nat.{not-suc-le-zero}
use native.Mathlib.Numerals.{add-one}
use native.Mathlib.Omega.{arith}
use lib.ListN.{length, get_or}
use Rattle.sets.specs.declared.Set.{Set}
use Rattle.tableau.specs.Search.{Slot, Problem, Met, Extension}
use Rattle.tableau.specs.Search.Choice.{done}
use Rattle.tableau.proofs.Extend.{ext_done}
use Rattle.tableau.proofs.Steps.{kept_none}
use Rattle.tableau.proofs.Extension.{solvable_extension, extension_found}
use Rattle.counting.specs.declared.question.Question.{Question}
use Rattle.counting.specs.Question.{problem_of}
use Rattle.counting.specs.Stack.{slots_of, Few, Put}
use Rattle.counting.proofs.Slots.{slots_same}
use Rattle.counting.proofs.Standing.{serving_bound, serving_few}
use Rattle.listed.specs.Codes.{codes_from}
use Rattle.listed.proofs.Codes.{codes_alike}
use Rattle.relaxing.specs.declared.Relaxed.{Relaxed}
use Rattle.relaxing.specs.Relaxing.{Relaxing, SameBelow, Seen}
use Rattle.relaxing.proofs.Below.{slot_below}
use Rattle.selection.specs.Selecting.{stack_room, ListAsked, SolvedIs, Selecting, Unchanged, Selected}

-- ---- what stays as it is

module _ {P : Problem} {slots end : ℕ} where
  pub unchanged_none : {words : List ℕ} → Unchanged P slots end words words
  unchanged_none = record { below = λ j l. refl; above = λ i l e. refl }

  pub unchanged_then : {before words after : List ℕ} → Unchanged P slots end before words → Unchanged P slots end words after → Unchanged P slots end before after
  unchanged_then u v = record { below = λ j l. v.below j l ∙ u.below j l; above = λ i l e. v.above i l e ∙ u.above i l e }

  pub unchanged_fewer : {before after : List ℕ} → Unchanged P (suc slots) end before after → Unchanged P slots end before after
  unchanged_fewer u = record { below = λ j l. u.below j (omega arith); above = u.above }

  pub unchanged_put : {before after : List ℕ} {b m : ℕ} → 2 * slots + 2 ≤ stack_room P → Put before slots b m after → Unchanged P slots end before after
  unchanged_put space put = record { below = put.below; above = λ i l e. put.behind i (omega arith) }

  unchanged_below : {before after : List ℕ} → 2 * slots ≤ end → SameBelow end before after → Unchanged P slots end before after
  unchanged_below below same = record { below = slot_below same slots below; above = λ i l e. same.word i e }

  module _ {before after : List ℕ} (u : Unchanged P slots end before after) where
    pub unchanged_less : {less : ℕ} → less ≤ end → Unchanged P slots less before after
    unchanged_less le = record { below = u.below; above = λ i l e. u.above i l (omega arith) }

    pub same_slots : slots_of after slots ≡ slots_of before slots
    same_slots = slots_same before after slots u.below

    pub same_codes : (at k : ℕ) → stack_room P ≤ at → at + k ≤ end → codes_from after at k ≡ codes_from before at k
    same_codes at k room inside = codes_alike before after at k (λ j l. u.above (at + j) (omega arith) (omega arith))

    module _ (same_length : length after ≡ length before) {all : Set} {at k : ℕ} where
      pub selecting_same : Selecting P all before at k slots → Selecting P all after at k slots
      selecting_same s = record {
        problem = s.problem;
        all_asking = s.all_asking;
        behind = record { room = s.behind.room; inside = omega (arith, s.behind.inside) };
        copies = λ j l. omega (arith, ap (λ (t : Slot). t.copies) (u.below j l), s.copies j l);
        kept = rw same_slots s.kept;
        serving = rw same_slots s.serving;
      }

-- ---- the ends

pub codes_next : (words : List ℕ) (at k : ℕ) → codes_from words at (suc k) ≡ get_or words at 0 ∷ codes_from words (at + 1) k
unfolding codes_from
codes_next words at k = rw add-one

-- with no set left, only slots that are met already are a solution
pub none_selected : {P : Problem} {words : List ℕ} {at k slots : ℕ} → (Met P (slots_of words slots) → ⊥) → k ≡ 0 → Selected P words at k slots false words
unfolding codes_from
none_selected {P} {words} {at} {k} {slots} un last = record { answers = λ e. never (rw last at e); unchanged = unchanged_none }
  where
    never : Extension P (slots_of words slots) [] → ⊥
    never (done met kept) = un met

module _ {P : Problem} {all : Set} {words : List ℕ} {at k slots : ℕ} (s : Selecting P all words at k slots) where
  pub selected_met : Met P (slots_of words slots) → Selected P words at k slots true words
  selected_met met = record { answers = ext_done met s.kept (codes_from words at k); unchanged = unchanged_none }

  pub selected_end : (Met P (slots_of words slots) → ⊥) → k ≡ 0 → Selected P words at k slots false words
  selected_end un last = none_selected un last

  pub selecting_space : 2 * slots ≤ at
  selecting_space = omega (arith, serving_bound P words slots s.serving, s.behind.room)

-- ---- what the relaxation sees

module _ (entries : List ℕ) (q : Question) {all : Set} {words : List ℕ} {at k slots : ℕ} (s : Selecting (problem_of entries q) all words at k slots) where
  pub selecting_few : Few words slots
  selecting_few = serving_few entries q words slots s.problem s.serving s.copies

  pub selecting_relaxing : Relaxing (problem_of entries q) words at k slots
  selecting_relaxing = record { problem = s.problem; few = selecting_few; below = selecting_space s; inside = s.behind.inside }

module _ {P : Problem} {all : Set} {before after : List ℕ} {at k slots : ℕ} (s : Selecting P all before at k slots) where
  seen_unchanged : {seen : Relaxed} → Seen P before at k slots seen after → Unchanged P slots (at + k) before after
  seen_unchanged seen = unchanged_below (omega (arith, selecting_space s)) seen.same

  pub selected_refuted : Seen P before at k slots Relaxed.Refuted after → Selected P before at k slots false after
  selected_refuted seen = record { answers = seen.answers; unchanged = seen_unchanged seen }

  pub selected_solved : Seen P before at k slots Relaxed.Solved after → Selected P before at k slots true after
  selected_solved seen = record { answers = seen.answers; unchanged = seen_unchanged seen }

  module _ {seen : Relaxed} (is : Seen P before at k slots seen after) where
    pub selecting_seen : length after ≡ length before → Selecting P all after at k slots
    selecting_seen same_length = selecting_same (seen_unchanged is) same_length s

    pub selected_seen : (r : Bool) {last : List ℕ} → Selected P after at k slots r last → Selected P before at k slots r last
    selected_seen r found = record {
      answers = rw (same_slots (seen_unchanged is), same_codes (seen_unchanged is) at k s.behind.room (omega arith)) at found.answers;
      unchanged = unchanged_then (seen_unchanged is) found.unchanged;
    }

-- ---- the whole list

module _ {P : Problem} {all : Set} {words : List ℕ} {at k : ℕ} (asked : ListAsked P all words at k) where
  pub asked_selecting : Selecting P all words at k 0
  unfolding slots_of
  asked_selecting = record {
    problem = asked.problem;
    all_asking = asked.all_asking;
    behind = asked.behind;
    copies = λ j l. absurd (not-suc-le-zero l);
    kept = kept_none;
    serving = tt;
  }

  pub asked_answer : (r : Bool) {after : List ℕ} → Selected P words at k 0 r after → SolvedIs P (codes_from words at k) r
  unfolding slots_of
  asked_answer true found = extension_found P asked.problem.below tt asked.fit found.answers
  asked_answer false found = λ covers known. found.answers (solvable_extension (codes_from words at k) covers known)
