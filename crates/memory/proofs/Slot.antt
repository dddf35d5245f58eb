-- What a slot says of its question, and what a slot that is written leaves of the others: its three words are new, all others are as they were.
use Rattle.std.proofs.Common.{◌≡◌, ℕ, ◌+◌, ◌*◌, ◌<◌, ◌≤◌, Bool, true, false, List, length, get_or, set, sym, refl, ◌∙◌, arith, length-set, get_or-set_other, get_or-set_same}
use mathlib.Core.Logic.{by_cases}
use native.Mathlib.Decide.{ℕ_discrete}
use lib.Seq.{take-set-le}
use Rattle.sets.specs.declared.Set.{Set}
use Rattle.sets.specs.Set.{member, code}
use Rattle.table.specs.declared.entry.Entry.{Entry}
use Rattle.semantics.specs.Answer.{Answers}
use Rattle.tableau.specs.Wants.{Sat}
use Rattle.memory.specs.Memory.{answer_code, Recalled, Memory, RecallIs, StandsFor, Written, Stored, Shifted}
use Rattle.std.specs.Prelude.{Option, Some, None}

code_injective : (a b : Bool) → answer_code a ≡ answer_code b → a ≡ b
code_injective true true e = refl
code_injective true false e = absurd (omega arith)
code_injective false true e = absurd (omega arith)
code_injective false false e = refl

-- a slot with the codes of two sets and of an answer says that this is the answer to their question
pub slot_says : {entry : ℕ → Entry} {words : List ℕ} {from : ℕ} → Memory entry words from → (k : ℕ) → k < 16384 → (yes no : Set) (answer : Bool)
    → get_or words (from + 3 * k) 0 ≡ code yes → get_or words (from + 3 * k + 1) 0 ≡ code no → get_or words (from + 3 * k + 2) 0 ≡ answer_code answer
    → Answers answer (Sat entry (member yes) (member no))
unfolding member
slot_says memory k few ts fs answer first second third = (rw (first, second) at ((memory.slot k few).says answer)) third

-- so does the answer whose code its last word is
pub recalled : {entry : ℕ → Entry} {words : List ℕ} {from : ℕ} → Memory entry words from → (k : ℕ) → k < 16384 → (yes no : Set) (last : ℕ) (r : Option Bool)
    → get_or words (from + 3 * k) 0 ≡ code yes → get_or words (from + 3 * k + 1) 0 ≡ code no → get_or words (from + 3 * k + 2) 0 ≡ last → StandsFor last r
    → RecallIs entry (member yes) (member no) r
recalled memory k few ts fs last (Some answer) first second third stands = slot_says memory k few ts fs answer first second (third ∙ stands)
recalled memory k few ts fs last None first second third stands = tt

-- three words are written into a slot
module _ (words : List ℕ) (from k y n m : ℕ) (room : from + 3 * k + 3 ≤ length words) where
  abbrev at : ℕ
  at = from + 3 * k

  abbrev once : List ℕ
  once = set words at y

  abbrev twice : List ℕ
  twice = set once (at + 1) n

  abbrev thrice : List ℕ
  thrice = set twice (at + 2) m

  -- elsewhere all is as before
  elsewhere : (i : ℕ) → (at ≤ i → i < at + 3 → ⊥) → get_or thrice i 0 ≡ get_or words i 0
  elsewhere i out =
      get_or-set_other twice (at + 2) i m 0 (λ e. out (omega arith) (omega arith)) ∙ get_or-set_other once (at + 1) i n 0 (λ e. out (omega arith) (omega arith))
      ∙ get_or-set_other words at i y 0 (λ e. out (omega arith) (omega arith))

  first : get_or thrice at 0 ≡ y
  first = get_or-set_other twice (at + 2) at m 0 (omega arith) ∙ get_or-set_other once (at + 1) at n 0 (omega arith) ∙ get_or-set_same words at y 0 (omega arith)

  second : get_or thrice (at + 1) 0 ≡ n
  second = get_or-set_other twice (at + 2) (at + 1) m 0 (omega arith) ∙ get_or-set_same once (at + 1) n 0 (simp length-set (omega arith))

  third : get_or thrice (at + 2) 0 ≡ m
  third = get_or-set_same twice (at + 2) m 0 (simp length-set (omega arith))

  module _ (entry : ℕ → Entry) (memory : Memory entry words from) (new : Recalled entry y n m) where
    new_slot : Recalled entry (get_or thrice at 0) (get_or thrice (at + 1) 0) (get_or thrice (at + 2) 0)
    new_slot = rw (first, second, third) new

    other_slot : (j : ℕ) → j < 16384 → (j ≡ k → ⊥)
        → Recalled entry (get_or thrice (from + 3 * j) 0) (get_or thrice (from + 3 * j + 1) 0) (get_or thrice (from + 3 * j + 2) 0)
    other_slot j few apart =
        rw (elsewhere (from + 3 * j) (λ a b. omega (arith, apart)), elsewhere (from + 3 * j + 1) (λ a b. omega (arith, apart)), elsewhere (from + 3 * j + 2) (λ a b. omega (arith, apart)))
        (memory.slot j few)

    all_slots : Memory entry thrice from
    all_slots = record { slot = λ j few. by_cases (ℕ_discrete j k) (λ (e : j ≡ k). rw e new_slot) (λ (apart : j ≡ k → ⊥). other_slot j few apart) }

  pub slot_written : Written from y n m words thrice
  slot_written = record {
    same_length = simp length-set;
    same = take-set-le from twice (at + 2) m (omega arith) ∙ take-set-le from once (at + 1) n (omega arith) ∙ take-set-le from words at y (omega arith);
    memory = all_slots;
  }

-- what was written into a slot is known
module _ {from y n m : ℕ} {before after : List ℕ} (written : Written from y n m before after) where
  -- the answer to a question is written into a slot
  pub stored : (yes no : Set) (answer : Bool) → y ≡ code yes → n ≡ code no → m ≡ answer_code answer → Stored from (member yes) (member no) answer before after
  unfolding member
  stored ts fs answer first second third = record {
    same_length = written.same_length;
    same = written.same;
    memory = λ entry memory so. written.memory entry memory
        (rw (first, second, third) (record { says = λ a e. rw (code_injective a answer (sym e)) so }));
  }

  -- what one slot says is written into another
  pub shifted : (k : ℕ) → k < 16384 → y ≡ get_or before (from + 3 * k) 0 → n ≡ get_or before (from + 3 * k + 1) 0 → m ≡ get_or before (from + 3 * k + 2) 0
      → Shifted from before after
  shifted k few first second third = record {
    same_length = written.same_length;
    same = written.same;
    memory = λ entry memory. written.memory entry memory (rw (first, second, third) (memory.slot k few));
  }
