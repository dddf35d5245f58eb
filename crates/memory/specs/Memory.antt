-- Questions that have been answered, in lent words. A slot is three words: the codes of the set wanted true, of the set wanted false, and of the answer.
-- An inner contract. What a slot says is so at any depth, whatever was worked out to get it, so slots may be overwritten freely.
use Rattle.std.specs.Prelude.{Option, Some, None, ◌≡◌, ℕ, ◌+◌, ◌*◌, ◌<◌, ◌≤◌, Bool, true, false, List, length, take, slice_index}
use Rattle.sets.specs.Word.{bit_at}
use Rattle.table.specs.declared.entry.Entry.{Entry}
use Rattle.semantics.specs.Answer.{Answers}
use Rattle.tableau.specs.Wants.{Sat}

-- the code of an answer; 0 is that of none
abbrev pub answer_code : Bool → ℕ
answer_code true = 1
answer_code false = 2

module _ (entry : ℕ → Entry) where
  -- a slot whose last word is the code of an answer says that this is the answer
  pub record Recalled (yes no last : ℕ) : Type 0 where
    pub says : (answer : Bool) → last ≡ answer_code answer → Answers answer (Sat entry (bit_at yes) (bit_at no))

  -- so do the slots from a place on, 16,384 at the most
  pub record Memory (words : List ℕ) (from : ℕ) : Type 0 where
    pub slot : (k : ℕ) → k < 16384 → Recalled (slice_index words (from + 3 * k)) (slice_index words (from + 3 * k + 1)) (slice_index words (from + 3 * k + 2))

  -- what is recalled of a question
  abbrev pub RecallIs : (yes no : ℕ → Bool) → Option Bool → Type 0
  RecallIs ts fs (Some answer) = Answers answer (Sat entry ts fs)
  RecallIs ts fs None = Unit {0}

-- a slot's last word is the code of an answer
abbrev pub StandsFor : ℕ → Option Bool → Type 0
StandsFor last (Some answer) = last ≡ answer_code answer
StandsFor last None = Unit {0}

-- there is room among the words for a slot, which is one of the first 16,384
abbrev pub Fits : (from words k : ℕ) → Type 0
Fits from words k = (k < 16384) × (from + 3 * k + 3 ≤ words)

-- there is room for so many slots
abbrev pub SlotsIs : (from words n : ℕ) → Type 0
SlotsIs from words n = (k : ℕ) → k < n → Fits from words k

-- the first of two slots, one behind the other, if there is room for any
abbrev pub PairIs : (from words : ℕ) → Option ℕ → Type 0
PairIs from words (Some k) = Fits from words (k + 1)
PairIs from words None = Unit {0}

-- three words were written: the words before the slots are as they were, and the slots still say what is so if the new one does
pub record Written (from yes no last : ℕ) (before after : List ℕ) : Type 0 where
  pub same_length : length after ≡ length before
  pub same : take from after ≡ take from before
  pub memory : (entry : ℕ → Entry) → Memory entry before from → Recalled entry yes no last → Memory entry after from

-- an answer was stored: the words before the slots are as they were, and the slots still say what is so
pub record Stored (from : ℕ) (yes no : ℕ → Bool) (answer : Bool) (before after : List ℕ) : Type 0 where
  pub same_length : length after ≡ length before
  pub same : take from after ≡ take from before
  pub memory : (entry : ℕ → Entry) → Memory entry before from → Answers answer (Sat entry yes no) → Memory entry after from

-- slots were moved: the words before them are as they were, and the slots still say what is so
pub record Shifted (from : ℕ) (before after : List ℕ) : Type 0 where
  pub same_length : length after ≡ length before
  pub same : take from after ≡ take from before
  pub memory : (entry : ℕ → Entry) → Memory entry before from → Memory entry after from

-- nothing is remembered: the slots say nothing, whatever table is asked about
pub record Forgotten (from : ℕ) (before after : List ℕ) : Type 0 where
  pub same_length : length after ≡ length before
  pub memory : (entry : ℕ → Entry) → Memory entry after from
