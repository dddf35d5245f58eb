-- The search stands in the words: each move keeps it standing, and comes nearer to the end.
-- Why: the moves are those of the search on slots; here they are made in words, whose room the sum of grades bounds.
use mathlib.Core.Path.{◌≡◌, refl, ap, ◌∙◌}
use mathlib.Core.Bool.{Bool}
use mathlib.Core.List.{List, ◌∷◌}
use Rattle.std.specs.Prelude.{Option, Some, None}
use Prim.Native.Nat.{ℕ, suc, ◌+◌, ◌*◌, ◌-◌, ◌^◌, ◌<◌, ◌≤◌, zero-le}
use native.Mathlib.Nat.{not-suc-le-zero}
use native.Mathlib.Omega.{arith}
use lib.ListN.{length}
use Rattle.table.specs.Space.{sum_of_grades}
use Rattle.table.proofs.Grades.{grade_sum_under}
use Rattle.sets.specs.declared.Set.{Set}
use Rattle.sets.specs.Word.{bit_at}
use Rattle.sets.specs.Set.{member, code, Within, BelowOf}
use Rattle.wide.specs.Wide.{wide_in}
use Rattle.tableau.specs.Search.{taken, Problem, asking, Solvable, Met, Fit, Useful, Serving, Searching, potential}
use Rattle.tableau.proofs.Searching.{searching_start, searching_next, searching_useless, searching_unfit, searching_taken}
use Rattle.tableau.proofs.Searching.{searching_lowered, searching_popped, searching_never, searching_found}
use Rattle.tableau.proofs.Potential.{potential_skipped, potential_tried, potential_taken, potential_dropped, potential_lowered}
use Rattle.tableau.proofs.Stack.{slots_bound}
use Rattle.counting.specs.declared.Asked.{Asked}
use Rattle.counting.specs.declared.Cursor.{Cursor}
use Rattle.counting.specs.declared.Step.{Step}
use Rattle.counting.specs.declared.question.Question.{Question}
use Rattle.counting.specs.Question.{problem_of, Small}
use Rattle.counting.specs.Stack.{slot_at, slots_of, FewCopies, Few, Put}
use Rattle.counting.specs.Search.{untried, trying, to_do, Standing, At, AskedIs, Nearer, StepIs, Behind}
use Rattle.counting.proofs.Slots.{length_slots, put_slots, put_copies}

-- ---- room in the words

module _ (P : Problem) (words : List ℕ) (k : ℕ) where
  pub serving_bound : Serving P (slots_of words k) → k ≤ sum_of_grades P.entry P.n
  serving_bound serving = omega (arith, length_slots words k, slots_bound P (slots_of words k) serving)

  -- one slot more
  pub serving_more : {b m : ℕ} → Serving P (taken b m ∷ slots_of words k) → suc k ≤ sum_of_grades P.entry P.n
  serving_more {b} {m} serving = omega (arith, length_slots words k, slots_bound P (taken b m ∷ slots_of words k) serving)

pub standing_bound : {P : Problem} {all : Set} {words : List ℕ} {k t : ℕ} → Standing P all words k t → k ≤ sum_of_grades P.entry P.n
standing_bound {P} {words = words} {k = k} s = serving_bound P words k s.searching.serving

-- a wide entry's grade is below 4096
pub serving_few : (entries : List ℕ) (q : Question) (words : List ℕ) (k : ℕ) → Small (problem_of entries q) → Serving (problem_of entries q) (slots_of words k)
    → FewCopies words k → Few words k
serving_few entries q words k small serving copies = record {
  slots = omega (
    arith,
    serving_bound (problem_of entries q) words k serving,
    small.few,
    grade_sum_under 4096 (wide_in entries) (λ i. omega arith) (length entries),
  );
  copies = copies;
}

pub standing_few : (entries : List ℕ) (q : Question) {all : Set} {words : List ℕ} {k t : ℕ} → Standing (problem_of entries q) all words k t → Few words k
standing_few entries q {words = words} {k = k} s = serving_few entries q words k s.problem s.searching.serving s.copies

module _ {P : Problem} {all : Set} {words : List ℕ} {k : ℕ} where
  pub standing_space : {b m t : ℕ} → Standing P all words k t → 0 < m → Useful P (slots_of words k) b m → 2 * k + 2 ≤ length words
  standing_space s pos u = omega (arith, serving_more P words k (pos, u.serves pos, s.searching.serving), s.room)

  -- ---- the moves

  -- only what is left to be tried changes
  moved : {t t' : ℕ} → (Searching P (slots_of words k) t → Searching P (slots_of words k) t') → Standing P all words k t → Standing P all words k t'
  moved step s = record { problem = s.problem; all_asking = s.all_asking; room = s.room; copies = s.copies; searching = step s.searching }

  -- a slot is written
  written : {after : List ℕ} {b m t t' : ℕ} → Put words k b m after → m ≤ 4096 → FewCopies words k → Searching P (taken b m ∷ slots_of words k) t'
      → {j : ℕ} → Standing P all words j t → Standing P all after (suc k) t'
  written put small few now s = record {
    problem = s.problem;
    all_asking = s.all_asking;
    room = rw put.same_length s.room;
    copies = put_copies put small few;
    searching = rw (put_slots put) now;
  }

  pub nearer_behind : {tried : Set} {c : Cursor} {begun : ℕ} → Behind all tried k c → Standing P all words k (code tried)
      → potential (slots_of words k) (code tried) < begun → Nearer P all words begun c
  nearer_behind {tried} {c} behind s less = record {
    at = behind.at P words s;
    less = rw behind.same_slots (omega (arith, potential_skipped (slots_of words k) (untried c.next) (code tried) behind.lower, less));
  }

-- the set that comes next below, or none
pub behind_below : {all tried : Set} (slots : ℕ) (next : Option Set) → BelowOf (member all) (code tried) next
    → Behind all tried slots (record { slots = slots; next = next })
unfolding member
behind_below {all} slots (Some next) below = record {
  same_slots = refl;
  lower = below.smaller;
  at = λ P words s. record {
    standing = moved (searching_next (member all) (λ i h. ap (λ (p : ℕ → Bool). p i) s.all_asking ∙ h) below) s;
    within = below.within;
  };
}
behind_below slots None none = record {
  same_slots = refl;
  lower = zero-le;
  at = λ P words s. record { standing = rw none at s; within = tt };
}

-- the next set is tried
module _ {P : Problem} {all : Set} {words : List ℕ} {slots : ℕ} {set : Set} where
  -- and passed over
  passed : At P all words (trying slots set) → (Searching P (slots_of words slots) (suc (code set)) → Searching P (slots_of words slots) (code set))
      → {r : Cursor} → Behind all set slots r → Nearer P all words (to_do words (trying slots set)) r
  passed at step behind = nearer_behind behind (moved step at.standing) (potential_tried (slots_of words slots) (code set) _ (omega arith))

  pub nearer_useless : At P all words (trying slots set) → Useful P (slots_of words slots) (code set) 0
      → {r : Cursor} → Behind all set slots r → Nearer P all words (to_do words (trying slots set)) r
  nearer_useless at u = passed at (searching_useless u)

  pub nearer_unfit : At P all words (trying slots set) → (Fit P (code set) → ⊥)
      → {r : Cursor} → Behind all set slots r → Nearer P all words (to_do words (trying slots set)) r
  nearer_unfit at un = passed at (searching_unfit un)

-- and taken
pub nearer_taken : {P : Problem} {all : Set} {words after : List ℕ} {a : Asked} {r : Cursor} → AskedIs P all words a → Fit P (code a.set)
    → Put words a.slots (code a.set) a.copies after → Behind all a.set (suc a.slots) r → Nearer P all after (to_do words (trying a.slots a.set)) r
nearer_taken {words = words} {a = a} asked fit put behind =
    let s = asked.at.standing in
    nearer_behind behind (written put asked.useful.small s.copies (searching_taken asked.positive asked.useful fit s.searching) s)
    (rw (put_slots put) (potential_taken (slots_of words a.slots) (code a.set) _ a.copies (omega arith) asked.useful.small))

-- the newest slot gives up a copy
module _ {P : Problem} {all : Set} {words : List ℕ} {newest : ℕ} (s : Standing P all words (suc newest) 0) where
  pub newest_space : 2 * newest + 2 ≤ length words
  newest_space = omega (arith, standing_bound s, s.room)

  pub newest_within : Within (bit_at (slot_at words newest).code) (member all)
  unfolding slots_of
  newest_within i h = ap (λ (p : ℕ → Bool). p i) s.all_asking ∙ s.searching.fit.0.within i h

  newest_copies : 0 < (slot_at words newest).copies
  unfolding slots_of
  newest_copies = s.searching.serving.0

  module _ (un : Met P (slots_of words (suc newest)) → ⊥) {tried : Set} (e : code tried ≡ (slot_at words newest).code) {r : Cursor} where
    -- its last
    pub nearer_popped : (slot_at words newest).copies ≤ 1 → Behind all tried newest r
        → Nearer P all words (potential (slots_of words (suc newest)) 0) r
    unfolding slots_of
    nearer_popped last behind =
        let pos = newest_copies in
        nearer_behind behind
        (record {
          problem = s.problem;
          all_asking = s.all_asking;
          room = s.room;
          copies = λ j l. s.copies j (omega arith);
          searching = rw e (searching_popped (omega arith) un s.searching);
        })
        (rw e (potential_dropped (slots_of words newest) _ 0 (slot_at words newest).copies pos))

    pub nearer_lowered : {after : List ℕ} → 1 < (slot_at words newest).copies → Put words newest (code tried) ((slot_at words newest).copies - 1) after
        → Behind all tried (suc newest) r → Nearer P all after (potential (slots_of words (suc newest)) 0) r
    unfolding slots_of
    nearer_lowered some put behind =
        nearer_behind behind
        (written put (omega (arith, s.copies newest (omega arith))) (λ j l. s.copies j (omega arith))
        (rw e (searching_lowered (omega arith) un s.searching)) s)
        (rw (put_slots put, e) (potential_lowered (slots_of words newest) _ 0 (slot_at words newest).copies newest_copies))

-- ---- the start, and the answers

pub at_start : (P : Problem) (all : Set) (words : List ℕ) → code all < 2 ^ 64 → Small P → member all ≡ asking P
    → 2 * sum_of_grades P.entry P.n + 2 ≤ length words → At P all words (trying 0 all)
unfolding slots_of member
at_start P all words fits small e room = record {
  standing = record {
    problem = small;
    all_asking = e;
    room = room;
    copies = λ j l. absurd (not-suc-le-zero l);
    searching = searching_start P small.below 64 (code all) small.few fits (λ i h. ap (λ (p : ℕ → Bool). p i) e ∙ h);
  };
  within = λ i h. h;
}

module _ {P : Problem} {all : Set} {words : List ℕ} {c : Cursor} (at : At P all words c) where
  pub at_found : Met P (slots_of words c.slots) → Solvable P
  at_found met = searching_found P at.standing.problem.below met at.standing.searching

  -- no set is left to try
  module _ (idle : c.next ≡ None) where
    pub at_newest : {k : ℕ} → c.slots ≡ suc k → Standing P all words (suc k) 0
    at_newest e = rw (idle, e) at at.standing

    module _ (un : Met P (slots_of words c.slots) → ⊥) where
      pub at_failed : c.slots ≡ 0 → Solvable P → ⊥
      unfolding slots_of
      at_failed e = searching_never (rw e at un) (rw (idle, e) at at.standing.searching)

      pub nearer_idle : {k : ℕ} {after : List ℕ} {r : Cursor} → c.slots ≡ suc k
          → (Standing P all words (suc k) 0 → (Met P (slots_of words (suc k)) → ⊥) → Nearer P all after (potential (slots_of words (suc k)) 0) r)
          → Nearer P all after (to_do words c) r
      nearer_idle e gave = rw (idle, e) (gave (at_newest e) (rw e at un))

-- begun with no less to do
pub step_from : (P : Problem) (all : Set) (words : List ℕ) {begun before : ℕ} → begun ≤ before → (s : Step) → StepIs P all words begun s
    → StepIs P all words before s
step_from P all words le Step.Found h = h
step_from P all words le Step.Failed h = h
step_from P all words le (Step.Ask a) h = (h.0, omega (arith, h.1))
