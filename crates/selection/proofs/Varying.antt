-- The copies of one set, number by number.
-- Why: what a number of copies of a set comes to is what the list behind it comes to, with that slot on the stack; and a set is of use only so often.
use mathlib.Core.Path.{◌≡◌, refl}
use mathlib.Core.Logic.{◌⊎◌, ⊎_elim, by_cases}
use mathlib.Core.Bool.{Bool, true, false}
use mathlib.Core.List.{List, ◌∷◌}
use Prim.Native.Nat.{ℕ, suc, ◌+◌, ◌*◌, ◌<◌, ◌≤◌, zero-le}
use native.Mathlib.Decide.{dec_lt}
use native.Mathlib.Omega.{arith}
use lib.ListN.{length, get_or}
use Rattle.sets.specs.declared.Set.{Set}
use Rattle.semantics.specs.Answer.{Answers}
use Rattle.tableau.specs.Search.{taken, Problem, Useful, Extension}
use Rattle.tableau.specs.Search.Choice.{some}
use Rattle.tableau.proofs.Extend.{ext_none, ext_with_none}
use Rattle.tableau.proofs.Steps.{kept_taken, kept_lowered, ext_useful}
use Rattle.counting.specs.Stack.{slots_of, Put}
use Rattle.counting.proofs.Slots.{put_slots, put_copies}
use Rattle.counting.proofs.Standing.{serving_more}
use Rattle.listed.specs.Codes.{codes_from}
use Rattle.selection.specs.Selecting.{stack_room, Selecting, Varying, Between, Unchanged, Selected, Tried, Varied}
use Rattle.selection.proofs.Selecting.{unchanged_none, unchanged_then, unchanged_fewer, unchanged_put, unchanged_less, same_slots, same_codes, selecting_same, codes_next}

-- ---- a slot more

module _ {P : Problem} {all : Set} {words : List ℕ} {at k slots b m : ℕ} (s : Varying P all words at k slots b m) where
  pub varying_fewer : {n : ℕ} → n ≤ m → Varying P all words at k slots b n
  varying_fewer few = record {
    selecting = s.selecting;
    kept = kept_lowered few s.kept;
    serves = λ pos. s.serves (omega arith);
    small = omega (arith, s.small);
  }

  varying_same : {after : List ℕ} → Unchanged P slots (at + k) words after → length after ≡ length words → Varying P all after at k slots b m
  varying_same u same_length = record {
    selecting = selecting_same u same_length s.selecting;
    kept = rw (same_slots u) s.kept;
    serves = rw (same_slots u) s.serves;
    small = s.small;
  }

  tried_stack : 0 < m → 2 * slots + 2 ≤ stack_room P
  tried_stack pos = omega (arith, serving_more P words slots {b = b} {m = m} (pos, s.serves pos, s.selecting.serving))

  pub tried_room : 0 < m → 2 * slots + 2 ≤ at
  tried_room pos = omega (arith, tried_stack pos, s.selecting.behind.room)

  pub tried_space : 0 < m → 2 * slots + 2 ≤ length words
  tried_space pos = omega (arith, tried_room pos, s.selecting.behind.inside)

  module _ {after : List ℕ} (pos : 0 < m) (put : Put words slots b m after) where
    pub tried_selecting : Selecting P all after at k (suc slots)
    tried_selecting = record {
      problem = s.selecting.problem;
      all_asking = s.selecting.all_asking;
      behind = record { room = s.selecting.behind.room; inside = omega (arith, s.selecting.behind.inside, put.same_length) };
      copies = put_copies put s.small s.selecting.copies;
      kept = rw (put_slots put) s.kept;
      serving = rw (put_slots put) (pos, s.serves pos, s.selecting.serving);
    }

    put_unchanged : Unchanged P slots (at + k) words after
    put_unchanged = unchanged_put (tried_stack pos) put

    pub tried_some : (r : Bool) {last : List ℕ} → Selected P after at k (suc slots) r last → Tried P words at k slots b m r last
    tried_some r found = record {
      answers = rw (put_slots put, same_codes put_unchanged at k s.selecting.behind.room (omega arith)) at found.answers;
      unchanged = unchanged_then put_unchanged (unchanged_fewer found.unchanged);
    }

  pub tried_none : m ≡ 0 → (r : Bool) {after : List ℕ} → Selected P words at k slots r after → Tried P words at k slots b m r after
  tried_none none r found = record { answers = rw none (by_answer r found.answers); unchanged = found.unchanged }
    where
      by_answer : (r : Bool) → Answers r (Extension P (slots_of words slots) (codes_from words at k))
          → Answers r (Extension P (taken b 0 ∷ slots_of words slots) (codes_from words at k))
      by_answer true e = ext_with_none b e
      by_answer false un = λ e. un (ext_none e)

-- ---- number by number

-- no number of copies of the set b from low on and below high gives a solution
pub record Without (P : Problem) (before : List ℕ) (at k slots b low high : ℕ) (words : List ℕ) : Type 0 where
  pub unchanged : Unchanged P slots (at + k) before words
  pub same_length : length words ≡ length before
  pub none : Between P (slots_of before slots) b low high (codes_from before at k) → ⊥

pub without_start : {P : Problem} {before : List ℕ} {at k slots b m : ℕ} → Without P before at k slots b m m before
without_start = record { unchanged = unchanged_none; same_length = refl; none = λ (j, more, less, e). omega arith }

module _ {P : Problem} {all : Set} {before : List ℕ} {at k slots b most : ℕ} (s : Varying P all before at k slots b most) where
  module _ {words : List ℕ} {low high : ℕ} (w : Without P before at k slots b low high words) where
    pub without_varying : {m : ℕ} → m ≤ most → Varying P all words at k slots b m
    without_varying few = varying_fewer (varying_same s w.unchanged w.same_length) few

    module _ {m : ℕ} {r : Bool} {after : List ℕ} (tried : Tried P words at k slots b m r after) where
      -- what was tried, in terms of the words at first
      asked : Answers r (Extension P (taken b m ∷ slots_of before slots) (codes_from before at k))
      asked = rw (same_slots w.unchanged, same_codes w.unchanged at k s.selecting.behind.room (omega arith)) at tried.answers

      still : Unchanged P slots (at + k) before after
      still = unchanged_then w.unchanged tried.unchanged

    pub varied_found : {m least top : ℕ} {after : List ℕ} → least ≤ m → m < top → Tried P words at k slots b m true after
        → Varied P before at k slots b least top true after
    varied_found {m = m} more less tried = record { answers = (m, more, less, asked tried); unchanged = still tried }

    -- one number more
    pub without_more : {m least top : ℕ} {after : List ℕ} → length after ≡ length before → Tried P words at k slots b m false after
        → ((j : ℕ) → least ≤ j → j < top → (j ≡ m) ⊎ ((low ≤ j) × (j < high))) → Without P before at k slots b least top after
    without_more same_length tried which = record {
      unchanged = still tried;
      same_length = same_length;
      none = λ (j, more, less, e).
          ⊎_elim (λ (at : j ≡ _). asked tried (rw at at e)) (λ (there : (low ≤ j) × (j < high)). w.none (j, there.0, there.1, e)) (which j more less);
    }

    -- a range more, refuted for the words as they are, and no number is left
    pub varied_spanned : {from to least top : ℕ} → (Between P (slots_of words slots) b from to (codes_from words at k) → ⊥)
        → ((j : ℕ) → least ≤ j → j < top → ((from ≤ j) × (j < to)) ⊎ ((low ≤ j) × (j < high))) → Varied P before at k slots b least top false words
    varied_spanned {from} {to} refuted which = record {
      answers = λ (j, more, less, e).
          ⊎_elim (λ (there : (from ≤ j) × (j < to)). spanned (j, there.0, there.1, e)) (λ (there : (low ≤ j) × (j < high)). w.none (j, there.0, there.1, e))
          (which j more less);
      unchanged = w.unchanged;
    }
      where
        spanned : Between P (slots_of before slots) b from to (codes_from before at k) → ⊥
        spanned = rw (same_slots w.unchanged, same_codes w.unchanged at k s.selecting.behind.room (omega arith)) at refuted

    pub varied_none : {least top : ℕ} → low ≤ least → top ≤ high → Varied P before at k slots b least top false words
    varied_none lower upper = record { answers = λ (j, more, less, e). w.none (j, omega arith, omega arith, e); unchanged = w.unchanged }

-- ---- all numbers that are of use

module _ {P : Problem} {all : Set} {words : List ℕ} {at k slots : ℕ} (s : Selecting P all words at (suc k) slots) where
  module _ {b most : ℕ} (useful : Useful P (slots_of words slots) b most) where
    pub selecting_next : Varying P all words (at + 1) k slots b most
    selecting_next = record {
      selecting = record {
        problem = s.problem;
        all_asking = s.all_asking;
        behind = record { room = omega (arith, s.behind.room); inside = omega (arith, s.behind.inside) };
        copies = s.copies;
        kept = s.kept;
        serving = s.serving;
      };
      kept = kept_taken s.kept useful;
      serves = useful.serves;
      small = useful.small;
    }

    module _ (here : b ≡ get_or words at 0) where
      taken_so : Between P (slots_of words slots) b 0 (suc most) (codes_from words (at + 1) k) → Extension P (slots_of words slots) (codes_from words at (suc k))
      taken_so (m, more, less, e) = rw (codes_next words at k, ← here) (some m (λ positive. tt) e)

      pub selected_risen : {start : ℕ} {risen : List ℕ} → Varied P words (at + 1) k slots b start (suc most) true risen → Selected P words at (suc k) slots true risen
      selected_risen found =
          let (m, more, less, e) = found.answers in
          record { answers = taken_so (m, zero-le, less, e); unchanged = unchanged_less found.unchanged (omega arith) }

      module _ {start : ℕ} (few : start ≤ most) {risen : List ℕ} (rise : Varied P words (at + 1) k slots b start (suc most) false risen) where
        pub risen_varying : length risen ≡ length words → Varying P all risen (at + 1) k slots b start
        risen_varying same_length = varying_fewer (varying_same selecting_next rise.unchanged same_length) few

        pub selected_fallen : (r : Bool) {after : List ℕ} → Varied P risen (at + 1) k slots b 0 start r after → Selected P words at (suc k) slots r after
        selected_fallen r fall = record {
          answers = by_answer r (rw (same_slots rise.unchanged, same_codes rise.unchanged (at + 1) k (omega (arith, s.behind.room)) (omega arith)) at fall.answers);
          unchanged = unchanged_less (unchanged_then rise.unchanged fall.unchanged) (omega arith);
        }
          where
            by_answer : (r : Bool) → Answers r (Between P (slots_of words slots) b 0 start (codes_from words (at + 1) k))
                → Answers r (Extension P (slots_of words slots) (codes_from words at (suc k)))
            by_answer true (m, more, less, e) = taken_so (m, more, omega arith, e)
            by_answer false un = λ e.
                let (m, useful-so, with_it) = ext_useful useful (rw (codes_next words at k, ← here) at e) in
                by_cases (dec_lt m start)
                (λ (less : m < start). un (m, zero-le, less, with_it))
                (λ (not-less : ¬ (m < start)). rise.answers (m, omega arith, omega arith, with_it))
