-- What the calls come to: document 02, P9. Each theorem speaks of any answer that keeps the promise of its call, on drafts by value
-- (`Shows`) or packed (`BytesShow`).
use mathlib.Core.Path.{◌≡◌, refl, sym, ap, ◌∙◌}
use mathlib.Core.Logic.{◌↔◌, ◌⊎◌, inl, inr, ⊎_elim}
use mathlib.Core.Bool.{Bool, true, false, ◌||◌}
use mathlib.Core.List.{List, [], ◌∷◌}
use Prim.Native.Nat.{ℕ, ◌+◌, ◌≤◌, ◌<◌}
use native.Mathlib.Omega.{arith}
use lib.Dec.{eqb, leb, ltb}
use lib.ListN.{length, get_or}
use borrow.Author.Tests.{eqb-true, eqb-false, leb-true, le-leb, lt-leb, ltb-true, lt-ltb}
use Rattle.std.specs.Prelude.{Option, None, Some, is_none, Ok, Err}
use Rattle.faults.specs.declared.Fault.TheVariants.{TableLength, Kind, UnusedField, Reference, Draft}
use Rattle.faults.specs.Verdict.{Verdict, refusal, refuse_if, and_then}
use Rattle.table.specs.Entry.{entry_of, word_in}
use Rattle.table.specs.Check.{has_stray, refers_upward, entry_verdict}
use Rattle.history.specs.declared.Draft.{Draft as DraftValue}
use Rattle.history.specs.declared.Step.{Step}
use Rattle.history.specs.declared.Step.TheVariants.{Add, Save, Back}
use Rattle.history.specs.History.{State, fresh, verdict, state}
use Rattle.history.specs.Shown.{Shows, draft_in, BytesShow}
use Rattle.history.specs.Answered.{Given, Answers}
use Rattle.history.specs.Sound.{Whole}
use Rattle.history.specs.Stepping.{draft_verdict}
use Rattle.history.proofs.Lists.{length_listed}
use Rattle.history.proofs.Kept.{kept}
use Rattle.history.proofs.Answers.{given_accepted}

-- "After any sequence from a fresh draft the draft is the one the history gives": calls one after the other, from a fresh draft on,
-- the latest first, with the number that each answered.
pub data Ran {A : Type 0} (shows : A → State → Type 0) : List Step → A → List ℕ → Type 0 where
  begun : {draft : A} → shows draft fresh → Ran shows [] draft []
  called : {steps : List Step} {before after : A} {answers : List ℕ} {number : ℕ} (step : Step) → Ran shows steps before answers
      → Answers shows step before after number → Ran shows (step ∷ steps) after (number ∷ answers)

-- what the history says to each of its steps
abbrev pub answers_of : List Step → List ℕ
answers_of [] = []
answers_of (step ∷ earlier) = refusal (verdict step (state earlier)) ∷ answers_of earlier

-- the draft is the history's, and so is every answer on the way
pub calls_follow : {A : Type 0} {shows : A → State → Type 0} {steps : List Step} {draft : A} {answers : List ℕ} → Ran shows steps draft answers
    → shows draft (state steps) × (answers ≡ answers_of steps)
unfolding state
calls_follow (begun is) = (is, refl)
calls_follow (called {steps} step before is) =
    let so_far = calls_follow before in
    let told = is.given steps so_far.0 in
    (told.1, let h = told.0 in let g = so_far.1 in cc)

in_whole : (bytes : List ℕ) → Whole (draft_in bytes)
unfolding draft_in
in_whole bytes = record { entries = length_listed (word_in bytes) 64; saved = length_listed (λ name. get_or bytes (257 + name) 0) 16 }

-- Whether a history gives a draft can be told.
pub draft_known : (d : DraftValue) → Whole d → Given Shows d ⊎ (Given Shows d → ⊥)
draft_known d whole = by_verdict (draft_verdict d) refl
  where
    by_verdict : (v : Verdict) → draft_verdict d ≡ v → Given Shows d ⊎ (Given Shows d → ⊥)
    by_verdict (Ok tt) ok = inl ((given_accepted d whole).1 ok)
    by_verdict (Err f) is = inr (λ given. let ok = (given_accepted d whole).0 given in let z : ◌≡◌ {A = ℕ} 0 1 = cc in absurd (omega arith))

pub bytes_known : (bytes : List ℕ) → Given BytesShow bytes ⊎ (Given BytesShow bytes → ⊥)
bytes_known bytes = by_length (eqb (length bytes) 273) refl
  where
    by_length : (b : Bool) → eqb (length bytes) 273 ≡ b → Given BytesShow bytes ⊎ (Given BytesShow bytes → ⊥)
    by_length true is =
        let long = eqb-true (length bytes) 273 is in
        ⊎_elim (λ (given : Given Shows (draft_in bytes)). inl (given.0, record { long = long; same = sym given.1 }))
        (λ (none : Given Shows (draft_in bytes) → ⊥). inr (λ given. none (given.0, sym given.1.same)))
        (draft_known (draft_in bytes) (in_whole bytes))
    by_length false is = inr (λ given. eqb-false (length bytes) 273 is given.1.long)

-- 1 and 16 are not the numbers of an entry's faults
abbrev Own : ℕ → Type 0
Own number = (number ≤ 4) × (number ≡ 1 → ⊥)

entry_numbers : (a b c : Bool) → Own (refusal (and_then (refuse_if a Kind) (and_then (refuse_if b UnusedField) (refuse_if c Reference))))
entry_numbers true b c = (omega arith, λ e. omega (arith, e))
entry_numbers false true c = (omega arith, λ e. omega (arith, e))
entry_numbers false false true = (omega arith, λ e. omega (arith, e))
entry_numbers false false false = (omega arith, λ e. omega (arith, e))

entry_own : (w i : ℕ) → Own (refusal (entry_verdict (entry_of w) i))
entry_own w i = entry_numbers (leb 8 (entry_of w).kind) (has_stray (entry_of w)) (refers_upward (entry_of w) i)

-- adding gives 1 exactly where there are 64 entries, and never 16 by itself
add_full : (w : ℕ) (steps : List Step) → (refusal (verdict (Add w) (state steps)) ≡ 1) ↔ (length (state steps).entries ≡ 64)
add_full w steps = (
  λ is. by_test (leb 64 (length (state steps).entries)) refl is,
  λ full. let most : leb 64 (length (state steps).entries) ≡ true = le-leb 64 (length (state steps).entries) (omega arith) in rw most,
)
  where
    by_test : (b : Bool) → leb 64 (length (state steps).entries) ≡ b
        → refusal (and_then (refuse_if b TableLength) (entry_verdict (entry_of w) (length (state steps).entries))) ≡ 1 → length (state steps).entries ≡ 64
    by_test true most is = omega (arith, leb-true 64 (length (state steps).entries) most, (kept steps).few)
    by_test false less is = absurd ((entry_own w (length (state steps).entries)).1 is)

add_not_16 : (w : ℕ) (s : State) → refusal (verdict (Add w) s) ≡ 16 → ⊥
add_not_16 w s is = by_test (leb 64 (length s.entries)) is
  where
    by_test : (b : Bool) → refusal (and_then (refuse_if b TableLength) (entry_verdict (entry_of w) (length s.entries))) ≡ 16 → ⊥
    by_test true is' = omega (arith, is')
    by_test false is' = omega (arith, (entry_own w (length s.entries)).0, is')

if_16 : (b : Bool) → (refusal (refuse_if b Draft) ≡ 16) ↔ (b ≡ true)
if_16 true = (λ is. refl, λ is. refl)
if_16 false = (λ is. absurd (omega (arith, is)), λ is. let z : ◌≡◌ {A = ℕ} 0 1 = cc in absurd (omega arith))

none_is : (o : Option (List ℕ)) → is_none o ≡ true → o ≡ None
none_is None is = refl
none_is (Some copy) is = let z : ◌≡◌ {A = ℕ} 0 1 = cc in absurd (omega arith)

either_16 : (name : ℕ) (o : Option (List ℕ)) → (ltb 15 name || is_none o ≡ true) → (15 < name) ⊎ (o ≡ None)
either_16 name o is = by_test (ltb 15 name) refl is
  where
    by_test : (b : Bool) → ltb 15 name ≡ b → b || is_none o ≡ true → (15 < name) ⊎ (o ≡ None)
    by_test true over is' = inl (ltb-true 15 name over)
    by_test false less is' = inr (none_is o is')

unsaved_16 : (name : ℕ) (o : Option (List ℕ)) → o ≡ None → ltb 15 name || is_none o ≡ true
unsaved_16 name o is = by_test (ltb 15 name)
  where
    by_test : (b : Bool) → b || is_none o ≡ true
    by_test true = refl
    by_test false = rw is

-- The numbers of P9, each exactly when, for a draft of which it is known whether a history gives it.
module _ {A : Type 0} (shows : A → State → Type 0) (before after : A) (number : ℕ) (known : Given shows before ⊎ (Given shows before → ⊥)) where
  -- adding: 16 exactly for a draft that no history gives
  pub add_16 : (w : ℕ) → Answers shows (Add w) before after number → (number ≡ 16) ↔ (Given shows before → ⊥)
  add_16 w is = (λ e given. add_not_16 w (state given.0) (sym (is.given given.0 given.1).0 ∙ e), is.not_given)

  -- 1 exactly for a draft of 64 entries, whatever the entry is
  pub add_1 : (w : ℕ) → Answers shows (Add w) before after number
      → (number ≡ 1) ↔ ((steps : List Step) × shows before (state steps) × (length (state steps).entries ≡ 64))
  add_1 w is = (
    λ e.
        ⊎_elim
        (λ (given : Given shows before). (given.0, given.1, (add_full w given.0).0 (sym (is.given given.0 given.1).0 ∙ e)))
        (λ (none : Given shows before → ⊥). absurd (omega (arith, is.not_given none, e)))
        known,
    λ full. (is.given full.0 full.1).0 ∙ (add_full w full.0).1 full.2,
  )

  -- and where there is room, the number of the entry's own first fault at its place: 2, 3, 4, or 0 where it has none
  pub add_entry : (w : ℕ) → Answers shows (Add w) before after number → (steps : List Step) → shows before (state steps)
      → length (state steps).entries < 64 → number ≡ refusal (entry_verdict (entry_of w) (length (state steps).entries))
  add_entry w is steps given room =
      (is.given steps given).0
      ∙ ap (λ (b : Bool). refusal (and_then (refuse_if b TableLength) (entry_verdict (entry_of w) (length (state steps).entries))))
      (lt-leb 64 (length (state steps).entries) room)

  -- saving: 16 exactly for such a draft or a name over 15
  pub save_16 : (name : ℕ) → Answers shows (Save name) before after number → (number ≡ 16) ↔ ((Given shows before → ⊥) ⊎ (15 < name))
  save_16 name is = (
    λ e.
        ⊎_elim
        (λ (given : Given shows before).
        inr (ltb-true 15 name ((if_16 (ltb 15 name)).0 (sym (is.given given.0 given.1).0 ∙ e))))
        inl known,
    ⊎_elim is.not_given
        (λ (over : 15 < name).
        ⊎_elim (λ (given : Given shows before). (is.given given.0 given.1).0 ∙ (if_16 (ltb 15 name)).1 (lt-ltb 15 name over)) is.not_given known),
  )

  -- coming back: 16 exactly for such a draft, a name over 15 or one not saved
  pub back_16 : (name : ℕ) → Answers shows (Back name) before after number
      → (number ≡ 16) ↔ ((Given shows before → ⊥) ⊎ (15 < name) ⊎ ((steps : List Step) × shows before (state steps) × ((state steps).saved name ≡ None)))
  back_16 name is = (
    λ e.
        ⊎_elim
        (λ (given : Given shows before).
        let test = (if_16 (ltb 15 name || is_none ((state given.0).saved name))).0 (sym (is.given given.0 given.1).0 ∙ e) in
        ⊎_elim (λ (over : 15 < name). inr (inl over)) (λ (none-there : (state given.0).saved name ≡ None). inr (inr (given.0, given.1, none-there)))
        (either_16 name ((state given.0).saved name) test))
        inl known,
    ⊎_elim is.not_given
        (⊎_elim
        (λ (over : 15 < name).
        ⊎_elim
        (λ (given : Given shows before).
        (is.given given.0 given.1).0 ∙ (if_16 (ltb 15 name || is_none ((state given.0).saved name))).1 (rw (lt-ltb 15 name over)))
        is.not_given known)
        (λ (there : (steps : List Step) × shows before (state steps) × ((state steps).saved name ≡ None)).
        (is.given there.0 there.1).0
        ∙ (if_16 (ltb 15 name || is_none ((state there.0).saved name))).1 (unsaved_16 name ((state there.0).saved name) there.2))),
  )
