-- The entries of a draft as the bytes of a table, for the other calls.
use Rattle.std.specs.Prelude.{Result, ◌≡◌, List, ℕ, ◌*◌, ◌<◌, ◌≤◌, ltb, length, get_or}
use Rattle.faults.specs.declared.Fault.{Fault}
use Rattle.faults.specs.declared.Fault.TheVariants.{Space, Draft}
use Rattle.faults.specs.Verdict.{Verdict, number_of as fault_number, answer_number, refusal, refuse_if}
use Rattle.table.specs.Entry.{word_in}
use Rattle.history.specs.declared.Draft.{Draft as DraftValue}
use Rattle.history.specs.declared.Step.{Step}
use Rattle.history.specs.History.{State, state}
use Rattle.history.specs.Shown.{Shows}
use Rattle.history.specs.Answered.{Given}

-- the number of entries; of a refusal, the number of its fault
abbrev pub number_of : Result ℕ Fault → ℕ
number_of = answer_number (λ n. n)

-- bytes after the first n words were written, 4 bytes each as in a table: those behind are as they were
pub record Words (words : List ℕ) (n : ℕ) (before after : List ℕ) : Type 0 where
  pub as_long : length after ≡ length before
  pub there : (i : ℕ) → i < n → word_in after i ≡ get_or words i 0
  pub behind : (k : ℕ) → 4 * n ≤ k → get_or after k 0 ≡ get_or before k 0

-- 10 for bytes fewer than 4 for each entry
abbrev pub room_verdict : State → ℕ → Verdict
room_verdict s lent = refuse_if (ltb lent (4 * length s.entries)) Space

-- what a call answers, and what the lent bytes are then
pub record TableIs (draft : DraftValue) (before after : List ℕ) (r : Result ℕ Fault) : Type 0 where
  pub given : (steps : List Step) → Shows draft (state steps) → refusal r ≡ refusal (room_verdict (state steps) (length before))
  pub written : (steps : List Step) → Shows draft (state steps) → refusal r ≡ 0
      → (number_of r ≡ length (state steps).entries) × Words (state steps).entries (length (state steps).entries) before after
  pub not_given : (Given Shows draft → ⊥) → refusal r ≡ fault_number Draft
  pub kept : (refusal r ≡ 0 → ⊥) → after ≡ before
