-- The demands of the mission, from the promises of the calls. Each theorem speaks of any answer that keeps the promise of its call.
use mathlib.Core.Path.{◌≡◌, refl, sym, ap, ◌∙◌}
use mathlib.Core.Logic.{◌↔◌, by_cases}
use mathlib.Core.Bool.{Bool, true, false, true≢false}
use mathlib.Core.List.{List}
use Prim.Native.Nat.{ℕ, ◌<◌}
use native.Mathlib.Nat.{le_of_eq}
use native.Mathlib.Decide.{dec_lt}
use native.Mathlib.Omega.{arith}
use lib.ListN.{length, get_or}
use borrow.Author.Tests.{le-ltb}
use Rattle.semantics.specs.Formula.{Formula}
use Rattle.semantics.specs.Truth.{truth, Satisfiable}
use Rattle.sets.specs.Word.{bit_at}
use Rattle.sets.proofs.Words.{bit_word, bit_word_high}
use Rattle.faults.specs.declared.Fault.{Fault}
use Rattle.faults.specs.Verdict.{Verdict, accepted, number_of, refusal}
use Rattle.faults.proofs.Numbers.{accepted_refused, refused_number, accepted_number}
use Rattle.table.specs.Entry.{entry_in, size}
use Rattle.table.specs.Formulas.{formula_at}
use Rattle.table.specs.Check.{table_verdict}
use Rattle.structure.specs.Read.{structure_of}
use Rattle.truth_table.specs.Board.{board_verdict, Filled, BoardAfter}
use Rattle.decision.specs.Call.{pair_there, pair_verdict, NeededIs}
use Rattle.decision.specs.Decide.{number_of as decided, decide_verdict, DecisionIs}
use Rattle.mark.specs.declared.Mark.{Mark}
use Rattle.mark.specs.Mark.{Same, Inside, Beyond, MarkIs, number_of as mark_number, marking_number, MarkingIs}
use Rattle.mark.proofs.Exactly.{mark_unique, same_mark}
use Rattle.std.specs.Prelude.{Result, Ok, Err}

-- Demand 1. A call is refused with a number; 0 says that it answers.

-- the number is a fault's exactly when that is the first fault, and 0 exactly when there is none
pub record Refuses (verdict : Verdict) (number : ℕ) : Type 0 where
  pub refused : (f : Fault) → (number ≡ number_of f) ↔ (verdict ≡ Err f)
  pub answered : (number ≡ 0) ↔ (verdict ≡ accepted)

-- the lent words of a call that has a fault are as before
abbrev pub Keeps : Verdict → (before after : List ℕ) → Type 0
Keeps verdict before after = (f : Fault) → verdict ≡ Err f → after ≡ before

pub first_fault : (v : Verdict) → Refuses v (refusal v)
first_fault v = record { refused = refused_number v; answered = accepted_number v }

-- what a call promises of its faults, whatever it answers: it answers where there is none, and else names the first
abbrev Tells : {A : Type 0} → Verdict → Result A Fault → Type 0
Tells verdict (Ok x) = verdict ≡ accepted
Tells verdict (Err f) = verdict ≡ Err f

module _ {A : Type 0} {verdict : Verdict} where
  refuses : (r : Result A Fault) → Tells verdict r → Refuses verdict (refusal r)
  refuses (Ok x) told = rw told (first_fault accepted)
  refuses (Err f) told = rw told (first_fault (Err f))

  keeps : {before after : List ℕ} (r : Result A Fault) → Tells verdict r → ((f : Fault) → r ≡ Err f → after ≡ before) → Keeps verdict before after
  keeps (Ok x) told kept f found = absurd (accepted_refused (sym told ∙ found))
  keeps (Err g) told kept f found = kept g refl

pub check_refused : (bytes : List ℕ) (r : Verdict) → r ≡ table_verdict bytes → Refuses (table_verdict bytes) (refusal r)
check_refused bytes r is = rw is (first_fault (table_verdict bytes))

module _ (bytes packed before after : List ℕ) (r : Verdict) (is : r ≡ board_verdict bytes packed (length before)) (done : BoardAfter bytes packed before r after) where
  pub board_refused : Refuses (board_verdict bytes packed (length before)) (refusal r)
  board_refused = rw is (first_fault (board_verdict bytes packed (length before)))

  pub board_keeps : Keeps (board_verdict bytes packed (length before)) before after
  board_keeps f found = rw (is ∙ found) at done

  -- Demand 2. For a call without a fault: bit w of word i is 1 exactly when w is a world of the structure and entry i is true there.
  pub board_true : board_verdict bytes packed (length before) ≡ accepted → (i : ℕ) → i < size bytes → (w : ℕ)
      → (bit_at (get_or after i 0) w ≡ true) ↔ ((w < (structure_of packed).worlds) × (truth (structure_of packed) (formula_at (entry_in bytes) i) w ≡ true))
  board_true ok i inside w =
      let filled : Filled (structure_of packed) (entry_in bytes) (size bytes) before after = rw (is ∙ ok) at done in
      let word-is = ap (λ (a : ℕ). bit_at a w) (filled.table i inside) in
      let test = truth (structure_of packed) (formula_at (entry_in bytes) i) in
      by_cases (dec_lt w (structure_of packed).worlds)
      (λ (l : w < (structure_of packed).worlds).
      let same = word-is ∙ bit_word test l in
      (λ set. (l, sym same ∙ set), λ holds. same ∙ holds.1))
      (λ (g : ¬ (w < (structure_of packed).worlds)).
      let unset = word-is ∙ bit_word_high test (omega arith) in
      (λ set. absurd (true≢false (sym set ∙ unset)), λ holds. absurd (g holds.0)))

-- Demand 1, of the words that a call needs.
module _ (bytes : List ℕ) (model answer : ℕ) where
  words_tells : (r : Result ℕ Fault) → NeededIs bytes model answer r → Tells (pair_there bytes model answer) r
  words_tells (Ok w) is = is.0
  words_tells (Err g) is = is

  pub words_refused : (r : Result ℕ Fault) → NeededIs bytes model answer r → Refuses (pair_there bytes model answer) (refusal r)
  words_refused r is = refuses r (words_tells r is)

  -- with so many words neither a mark nor, for one entry twice, a decision is refused for want of them
  pub words_enough : (w : ℕ) → NeededIs bytes model answer (Ok w) → pair_verdict bytes model answer w ≡ accepted
  words_enough w is = simp (is.0, le-ltb _ _ (le_of_eq (sym is.1)))

-- Demands 1 and 3, of the decision.
module _ (bytes : List ℕ) (e : ℕ) (before after : List ℕ) where
  decision_tells : (r : Result Bool Fault) → DecisionIs bytes e before after r → Tells (decide_verdict bytes e (length before)) r
  decision_tells (Ok true) is = is.0
  decision_tells (Ok false) is = is.0
  decision_tells (Err g) is = is.0

  pub decision_refused : (r : Result Bool Fault) → DecisionIs bytes e before after r → Refuses (decide_verdict bytes e (length before)) (refusal r)
  decision_refused r is = refuses r (decision_tells r is)

  pub decision_keeps : (r : Result Bool Fault) → DecisionIs bytes e before after r → Keeps (decide_verdict bytes e (length before)) before after
  decision_keeps r is = keeps r (decision_tells r is) (λ f refused. (rw refused at is).1)

  -- a call without a fault answers 1, possible, exactly when some finite structure has a world where the entry is true
  pub decision_possible : (r : Result Bool Fault) → DecisionIs bytes e before after r → decide_verdict bytes e (length before) ≡ accepted
      → (decided r ≡ 1) ↔ Satisfiable (formula_at (entry_in bytes) e)
  decision_possible (Ok true) is ok = (λ same. is.1, λ sat. refl)
  decision_possible (Ok false) is ok = (λ same. absurd (omega (arith, same)), λ sat. absurd (is.1 sat))
  decision_possible (Err g) is ok = absurd (accepted_refused (sym ok ∙ is.0))

  -- and 0, impossible, exactly when none has
  pub decision_impossible : (r : Result Bool Fault) → DecisionIs bytes e before after r → decide_verdict bytes e (length before) ≡ accepted
      → (decided r ≡ 0) ↔ (Satisfiable (formula_at (entry_in bytes) e) → ⊥)
  decision_impossible (Ok true) is ok = (λ same. absurd (omega (arith, same)), λ none. absurd (none is.1))
  decision_impossible (Ok false) is ok = (λ same. is.1, λ none. refl)
  decision_impossible (Err g) is ok = absurd (accepted_refused (sym ok ∙ is.0))

-- The number of the mark of a possible answer, as demand 3 has it.
pub record Stands (model answer : Formula) (number : ℕ) : Type 0 where
  pub equal : (number ≡ 0) ↔ Same model answer
  pub narrower : (number ≡ 1) ↔ (Inside answer model × Beyond model answer)
  pub wider : (number ≡ 2) ↔ (Inside model answer × Beyond answer model)
  pub crossing : (number ≡ 3) ↔ (Beyond answer model × Beyond model answer)

-- what is so need not be said
where_so : {P Q A B : Type 0} → Q → P ↔ (Q × A × B) → P ↔ (A × B)
where_so so exactly = (λ p. let (q, a, b) = exactly.0 p in (a, b), λ both. exactly.1 (so, both.0, both.1))

-- Demands 1 and 3, of the mark.
module _ (bytes : List ℕ) (model answer : ℕ) (before after : List ℕ) where
  mark_tells : (r : Result Mark Fault) → MarkingIs bytes model answer before after r → Tells (pair_verdict bytes model answer (length before)) r
  mark_tells (Ok m) is = is.0
  mark_tells (Err g) is = is.0

  pub mark_refused : (r : Result Mark Fault) → MarkingIs bytes model answer before after r → Refuses (pair_verdict bytes model answer (length before)) (refusal r)
  mark_refused r is = refuses r (mark_tells r is)

  pub mark_keeps : (r : Result Mark Fault) → MarkingIs bytes model answer before after r → Keeps (pair_verdict bytes model answer (length before)) before after
  mark_keeps r is = keeps r (mark_tells r is) (λ f refused. (rw refused at is).1)

  -- a call without a fault answers the number of a mark exactly when that mark fits
  pub mark_exactly : (r : Result Mark Fault) → MarkingIs bytes model answer before after r → pair_verdict bytes model answer (length before) ≡ accepted
      → (m : Mark) → (marking_number r ≡ mark_number m) ↔ MarkIs (formula_at (entry_in bytes) model) (formula_at (entry_in bytes) answer) m
  mark_exactly (Ok n) is ok m =
      (λ same. let one = same_mark n m same in rw one at is.1, λ fits. ap mark_number (mark_unique _ _ n m is.1 fits))
  mark_exactly (Err g) is ok m = absurd (accepted_refused (sym ok ∙ is.0))

  -- Document 02, P2. It answers 4 exactly when the answer is impossible.
  pub mark_impossible : (r : Result Mark Fault) → MarkingIs bytes model answer before after r → pair_verdict bytes model answer (length before) ≡ accepted
      → (marking_number r ≡ 4) ↔ (Satisfiable (formula_at (entry_in bytes) answer) → ⊥)
  mark_impossible r is ok = mark_exactly r is ok Mark.Impossible

  -- And where the answer is possible, the other four numbers exactly when demand 3 says so.
  pub mark_possible : (r : Result Mark Fault) → MarkingIs bytes model answer before after r → pair_verdict bytes model answer (length before) ≡ accepted
      → Satisfiable (formula_at (entry_in bytes) answer) → Stands (formula_at (entry_in bytes) model) (formula_at (entry_in bytes) answer) (marking_number r)
  mark_possible r is ok sat =
      let fits = mark_exactly r is ok in
      record {
        equal = (λ n. ((fits Mark.Equal).0 n).1, λ same. (fits Mark.Equal).1 (sat, same));
        narrower = where_so sat (fits Mark.Narrower);
        wider = where_so sat (fits Mark.Wider);
        crossing = where_so sat (fits Mark.Crossing);
      }
