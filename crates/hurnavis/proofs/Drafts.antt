-- Document 02, P9: drafts to return to. Each theorem speaks of any answer that keeps the promise of its call. What each of the numbers 1
-- and 16 comes out for, and whole sequences of calls: `history`, proofs/Calls.antt.
use mathlib.Core.Path.{◌≡◌, refl, sym, ◌∙◌}
use mathlib.Core.List.{List}
use Prim.Native.Nat.{ℕ, ◌+◌, ◌*◌, ◌<◌, ◌≤◌}
use native.Mathlib.Omega.{arith}
use lib.Dec.{ltb}
use lib.ListN.{length, get_or, take, drop, length-drop}
use lib.Seq.{get_or-drop, ext_get_or}
use borrow.Author.Tests.{ltb-false}
use Rattle.faults.specs.declared.Fault.{Fault}
use Rattle.faults.specs.declared.Fault.TheVariants.{Space}
use Rattle.faults.proofs.Numbers.{accepted_number}
use Rattle.faults.proofs.Each.{not_refused}
use Rattle.table.specs.Entry.{word_in}
use Rattle.table.specs.Check.{table_verdict}
use Rattle.history.specs.declared.Draft.{Draft}
use Rattle.history.specs.declared.Step.{Step}
use Rattle.history.specs.History.{State, verdict, state}
use Rattle.history.specs.Shown.{Shows}
use Rattle.history.specs.Answered.{Answers}
use Rattle.history.proofs.Tables.{table_words, table_accepted}
use Rattle.draft_bytes.specs.Table.{TableIs, room_verdict}
use Rattle.hurnavis.proofs.Demands.{Refuses, first_fault}
use Rattle.faults.specs.Verdict.{accepted, refusal}
use Rattle.std.specs.Prelude.{Result, Ok}

-- a step on a draft that a history gives: the number of the history's first fault, and 0 exactly where there is none
pub draft_refused : {A : Type 0} (shows : A → State → Type 0) (step : Step) (before after : A) (number : ℕ) → Answers shows step before after number
    → (steps : List Step) → shows before (state steps) → Refuses (verdict step (state steps)) number
draft_refused shows step before after number is steps given =
    rw (is.given steps given).0 (first_fault (verdict step (state steps)))

-- the table of a draft that a history gives is refused with 10 exactly where the bytes are too few
pub table_refused : (draft : Draft) (before after : List ℕ) (r : Result ℕ Fault) → TableIs draft before after r → (steps : List Step) → Shows draft (state steps)
    → Refuses (room_verdict (state steps) (length before)) (refusal r)
table_refused draft before after r is steps given =
    rw (is.given steps given) (first_fault (room_verdict (state steps) (length before)))

-- The table of a draft: the entries of its history, a table that is accepted if there are any, and behind it what was there.
pub record DraftTable (steps : List Step) (n : ℕ) (before after : List ℕ) : Type 0 where
  pub count : n ≡ length (state steps).entries
  pub entries : (i : ℕ) → i < n → word_in (take (4 * n) after) i ≡ get_or (state steps).entries i 0
  pub accepted : 1 ≤ n → table_verdict (take (4 * n) after) ≡ accepted
  pub behind : drop (4 * n) after ≡ drop (4 * n) before

pub draft_tabled : (draft : Draft) (before after : List ℕ) (n : ℕ) → TableIs draft before after (Ok n) → (steps : List Step)
    → Shows draft (state steps) → DraftTable steps n before after
draft_tabled draft before after n is steps given =
    let (count, words) = is.written steps given refl in
    let verdict-is = (accepted_number (room_verdict (state steps) (length before))).0 (sym (is.given steps given)) in
    let enough = ltb-false (length before) (4 * length (state steps).entries) (not_refused (ltb (length before) (4 * length (state steps).entries)) Space verdict-is) in
    let room : 4 * n ≤ length after = omega (arith, words.as_long) in
    let there : (i : ℕ) → i < n → word_in after i ≡ get_or (state steps).entries i 0 = λ i h. words.there i (omega arith) in
    record {
      count = count;
      entries = table_words steps after n count room there;
      accepted = table_accepted steps after n count room there;
      behind =
          ext_get_or 0 (drop (4 * n) after) (drop (4 * n) before) (simp (length-drop, words.as_long) refl)
          (λ i h. get_or-drop (4 * n) after i 0 ∙ words.behind (4 * n + i) (omega arith) ∙ sym (get_or-drop (4 * n) before i 0));
    }
