-- What a call has to answer: the verdict of the draft and then of the step, and the draft that the step makes.
use mathlib.Core.Path.{◌≡◌, refl, sym, ap, subst, ◌∙◌}
use mathlib.Core.Logic.{◌⊎◌, inl, inr, ⊎_elim, ◌↔◌, by_cases}
use mathlib.Core.Bool.{Bool, true, false, not, ◌||◌}
use mathlib.Core.List.{List, ◌∷◌}
use Prim.Native.Nat.{ℕ, zero, suc, ◌<◌, ◌≤◌}
use native.Mathlib.Decide.{dec_lt}
use native.Mathlib.Omega.{arith}
use lib.Dec.{eqb, leb, ltb}
use lib.ListN.{get_or, get_or-eq_default}
use borrow.Author.Tests.{ltb-false, leb-true, lt-ltb, le-ltb, le-leb, eqb-true, eqb-false, eq-eqb, not-false}
use Rattle.std.specs.Prelude.{Ok, Err, is_err}
use Rattle.faults.specs.declared.Fault.{Fault}
use Rattle.faults.specs.declared.Fault.TheVariants.{Draft}
use Rattle.faults.specs.Verdict.{Verdict, accepted, number_of, refusal, refuse_if, and_then, each}
use Rattle.faults.proofs.Each.{both_accepted, not_refused, neither, each_accepted, all_accepted}
use Rattle.table.specs.Entry.{entry_of}
use Rattle.table.specs.Check.{entry_verdict}
use Rattle.history.specs.declared.Draft.{Draft as DraftValue}
use Rattle.history.specs.declared.Step.{Step}
use Rattle.history.specs.declared.Step.TheVariants.{Back}
use Rattle.history.specs.History.{verdict, taken, unless, state}
use Rattle.history.specs.Shown.{draft_of, Shows}
use Rattle.history.specs.Answered.{Given, Answers}
use Rattle.history.specs.Sound.{Whole, Sound}
use Rattle.history.specs.Stepping.{bad_word, bad_length, word_verdict, length_verdict, words_verdict, lengths_verdict, draft_verdict, own_verdict, stepped, step_verdict, after_step}
use Rattle.history.proofs.Kept.{kept}
use Rattle.history.proofs.Steps.{own_verdict_is, own_step}
use Rattle.history.proofs.Reached.{given_sound}

-- The check of a draft accepts the sound ones, and refuses every other with 16.

-- what is refused is refused with one fault
abbrev Only : Verdict → Type 0
Only v = (f : Fault) → v ≡ Err f → f ≡ Draft

only_if : (b : Bool) → Only (refuse_if b Draft)
only_if true f is = cc
only_if false f is = let z : ◌≡◌ {A = ℕ} 0 1 = cc in absurd (omega arith)

only_then : (a b : Verdict) → Only a → Only b → Only (and_then a b)
only_then (Ok tt) b first second = second
only_then (Err f) b first second = first

only_each : (v : ℕ → Verdict) (n : ℕ) → ((i : ℕ) → Only (v i)) → Only (each v n)
unfolding each
only_each v zero only f is = let z : ◌≡◌ {A = ℕ} 0 1 = cc in absurd (omega arith)
only_each v (suc n) only f is = only_then (each v n) (v n) (only_each v n only) (only n) f is

only_16 : (d : DraftValue) → Only (draft_verdict d)
unfolding draft_verdict
only_16 d =
    only_then (refuse_if (ltb 64 d.count) Draft) (and_then (words_verdict d.count d.entries) (lengths_verdict d.count d.saved))
    (only_if (ltb 64 d.count))
    (only_then (words_verdict d.count d.entries) (lengths_verdict d.count d.saved)
    (only_each (λ i. word_verdict d.count (get_or d.entries i 0) i) 64 (λ i. only_if (bad_word d.count (get_or d.entries i 0) i)))
    (only_each (λ name. length_verdict d.count (get_or d.saved name 0)) 16 (λ name. only_if (bad_length d.count (get_or d.saved name 0)))))

accepts : (v : Verdict) → is_err v ≡ false → v ≡ accepted
accepts (Ok tt) is = refl
accepts (Err f) is = let z : ◌≡◌ {A = ℕ} 0 1 = cc in absurd (omega arith)

-- a word that is accepted is a good entry, or 0 behind the entries
module _ (count word i : ℕ) where
  word_good : word_verdict count word i ≡ accepted → i < count → entry_verdict (entry_of word) i ≡ accepted
  word_good ok inside =
      accepts (entry_verdict (entry_of word) i) (rw (lt-ltb i count inside) at (not_refused (bad_word count word i) Draft ok))

  word_zero : word_verdict count word i ≡ accepted → count ≤ i → word ≡ 0
  word_zero ok past =
      eqb-true word 0 (not-false (eqb word 0) (rw (le-ltb i count past) at (not_refused (bad_word count word i) Draft ok)))

  word_accepted : (i < count → entry_verdict (entry_of word) i ≡ accepted) → (count ≤ i → word ≡ 0) → word_verdict count word i ≡ accepted
  word_accepted good zeros =
      by_cases (dec_lt i count) (λ (l : i < count). rw (lt-ltb i count l, good l))
      (λ (g : ¬ (i < count)). let past : count ≤ i = omega arith in rw (le-ltb i count past, zeros past))

-- and so is a saved length
length_good : (count saved : ℕ) → length_verdict count saved ≡ accepted → (saved ≡ 255) ⊎ (saved ≤ count)
length_good count saved ok = by_test (eqb saved 255) refl (not-false _ (not_refused (bad_length count saved) Draft ok))
  where
    by_test : (b : Bool) → eqb saved 255 ≡ b → b || leb saved count ≡ true → (saved ≡ 255) ⊎ (saved ≤ count)
    by_test true is either = inl (eqb-true saved 255 is)
    by_test false is either = inr (leb-true saved count either)

length_accepted : (count saved : ℕ) → (saved ≡ 255) ⊎ (saved ≤ count) → length_verdict count saved ≡ accepted
length_accepted count saved (inl none) = rw (eq-eqb saved 255 none)
length_accepted count saved (inr few) = by_test (eqb saved 255)
  where
    by_test : (b : Bool) → refuse_if (not (b || leb saved count)) Draft ≡ accepted
    by_test true = refl
    by_test false = rw (le-leb saved count few)

accepted_sound : (d : DraftValue) → Whole d → draft_verdict d ≡ accepted → Sound d
unfolding draft_verdict
accepted_sound d whole ok =
    let first = both_accepted (refuse_if (ltb 64 d.count) Draft) (and_then (words_verdict d.count d.entries) (lengths_verdict d.count d.saved)) ok in
    let later = both_accepted (words_verdict d.count d.entries) (lengths_verdict d.count d.saved) first.1 in
    let few : d.count ≤ 64 = ltb-false 64 d.count (not_refused (ltb 64 d.count) Draft first.0) in
    let words = each_accepted (λ i. word_verdict d.count (get_or d.entries i 0) i) 64 later.0 in
    record {
      whole = whole;
      few = few;
      good = λ i h. word_good d.count (get_or d.entries i 0) i (words i (omega arith)) h;
      behind =
          λ i h.
          by_cases (dec_lt i 64) (λ (l : i < 64). word_zero d.count (get_or d.entries i 0) i (words i l) h)
          (λ (g : ¬ (i < 64)). get_or-eq_default d.entries 0 (omega (arith, whole.entries)));
      lengths = λ name h. length_good d.count (get_or d.saved name 0) (each_accepted (λ n. length_verdict d.count (get_or d.saved n 0)) 16 later.1 name h);
    }

sound_accepted : (d : DraftValue) → Sound d → draft_verdict d ≡ accepted
unfolding draft_verdict
sound_accepted d s =
    rw (
      le-ltb 64 d.count s.few,
      all_accepted (λ i. word_verdict d.count (get_or d.entries i 0) i) 64 (λ i h. word_accepted d.count (get_or d.entries i 0) i (s.good i) (s.behind i)),
      all_accepted (λ name. length_verdict d.count (get_or d.saved name 0)) 16 (λ name h. length_accepted d.count (get_or d.saved name 0) (s.lengths name h)),
    )

-- a draft is accepted exactly when a history gives it
pub given_accepted : (d : DraftValue) → Whole d → Given Shows d ↔ (draft_verdict d ≡ accepted)
given_accepted d whole = (λ given. sound_accepted d ((given_sound d).0 given), λ ok. (given_sound d).1 (accepted_sound d whole ok))

-- and otherwise refused with 16
pub not_given_refused : (d : DraftValue) (f : Fault) → draft_verdict d ≡ Err f → f ≡ Draft
not_given_refused = only_16

-- The answer to a step.

-- the draft after a step on a draft that a history gives
shown_after : (step : Step) (steps : List Step) (d : DraftValue) → Shows d (state steps)
    → (own_verdict step d ≡ verdict step (state steps)) × Shows (unless (own_verdict step d) (stepped step d) d) (state (step ∷ steps))
unfolding state
shown_after step steps d shows =
    let s = state steps in
    let same = own_verdict_is step s (kept steps) in
    rw (sym shows) (same, rw same (by_verdict (verdict step s) refl))
  where
    by_verdict : (v : Verdict) → verdict step (state steps) ≡ v
        → draft_of (unless v (taken step (state steps)) (state steps)) ≡ unless v (stepped step (draft_of (state steps))) (draft_of (state steps))
    by_verdict (Ok tt) ok = sym (own_step step (state steps) (kept steps) ok)
    by_verdict (Err f) is = refl

kept_unless : {A : Type 0} (v : Verdict) (a b : A) → (refusal v ≡ 0 → ⊥) → unless v a b ≡ b
kept_unless (Ok tt) a b refused = absurd (refused refl)
kept_unless (Err f) a b refused = refl

pub answers : (step : Step) (d : DraftValue) → Whole d → Answers Shows step d (after_step step d) (refusal (step_verdict step d))
answers step d whole = by_verdict (draft_verdict d) refl
  where
    by_verdict : (v : Verdict) → draft_verdict d ≡ v
        → Answers Shows step d (unless (and_then v (own_verdict step d)) (stepped step d) d) (refusal (and_then v (own_verdict step d)))
    by_verdict (Ok tt) ok =
        record {
          given = λ steps shows. let after = shown_after step steps d shows in (ap refusal after.0, after.1);
          not_given = λ none. absurd (none ((given_accepted d whole).1 ok));
          kept = λ refused. kept_unless (own_verdict step d) (stepped step d) d refused;
        }
    by_verdict (Err f) is =
        record {
          given = λ steps shows. let ok = (given_accepted d whole).0 (steps, shows) in let z : ◌≡◌ {A = ℕ} 0 1 = cc in absurd (omega arith);
          not_given = λ none. ap number_of (only_16 d f is);
          kept = λ refused. refl;
        }

known : (step : Step) (d : DraftValue) → Whole d → {v : Verdict} → step_verdict step d ≡ v → Answers Shows step d (unless v (stepped step d) d) (refusal v)
known step d whole is = subst (λ (w : Verdict). Answers Shows step d (unless w (stepped step d) d) (refusal w)) is (answers step d whole)

-- a refused step leaves the draft
pub refused_answers : (step : Step) (d : DraftValue) → Whole d → {v : Verdict} {f : Fault} → v ≡ step_verdict step d → v ≡ Err f → Answers Shows step d d (refusal v)
refused_answers step d whole is refused = rw refused (known step d whole (sym is ∙ refused))

-- one that is taken makes another
pub taken_answers : (step : Step) (d : DraftValue) → Whole d → {after : DraftValue} {v : Verdict} → v ≡ step_verdict step d → v ≡ accepted
    → after ≡ stepped step d → Answers Shows step d after (refusal v)
taken_answers step d whole is ok made = rw (ok, made) (known step d whole (sym is ∙ ok))

own_accepted : (step : Step) (d : DraftValue) → step_verdict step d ≡ accepted → own_verdict step d ≡ accepted
own_accepted step d ok = (both_accepted (draft_verdict d) (own_verdict step d) ok).1

-- nothing is come back to but a length of the draft, which is no more than its entries are
pub back_room : (name : ℕ) (d : DraftValue) → Whole d → step_verdict (Back name) d ≡ accepted → (name ≤ 15) × (get_or d.saved name 0 ≤ 64)
back_room name d whole ok =
    let found = neither (ltb 15 name) (eqb (get_or d.saved name 0) 255)
    (not_refused (ltb 15 name || eqb (get_or d.saved name 0) 255) Draft (own_accepted (Back name) d ok)) in
    let inside : name ≤ 15 = ltb-false 15 name found.0 in
    let sound = accepted_sound d whole (both_accepted (draft_verdict d) (own_verdict (Back name) d) ok).0 in (
      inside,
      ⊎_elim (λ (none : get_or d.saved name 0 ≡ 255). absurd (eqb-false (get_or d.saved name 0) 255 found.1 none))
          (λ (few : get_or d.saved name 0 ≤ d.count). omega (arith, sound.few))
          (sound.lengths name (omega arith)),
    )
