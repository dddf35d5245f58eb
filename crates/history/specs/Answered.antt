-- What a call answers to a step on a draft: document 02, P9.
use Rattle.std.specs.Prelude.{◌≡◌, List, ◌∷◌, ℕ, length}
use Rattle.faults.specs.declared.Fault.TheVariants.{Draft}
use Rattle.faults.specs.Verdict.{number_of, refusal}
use Rattle.history.specs.declared.Step.{Step}
use Rattle.history.specs.History.{State, fresh, verdict, state}
use Rattle.history.specs.Shown.{BytesShow}

-- some sequence of steps from a fresh draft on gives this draft; drafts are by value, or packed
abbrev pub Given : {A : Type 0} → (A → State → Type 0) → A → Type 0
Given shows draft = (steps : List Step) × shows draft (state steps)

-- the number that a step is refused with, 0 where it is taken, and the draft before and after it
pub record Answers {A : Type 0} (shows : A → State → Type 0) (step : Step) (before after : A) (number : ℕ) : Type 0 where
  -- "After any sequence from a fresh draft the draft is the one the history gives."
  pub given : (steps : List Step) → shows before (state steps)
      → (number ≡ refusal (verdict step (state steps))) × shows after (state (step ∷ steps))
  -- "16, first, for a draft that no such sequence gives"
  pub not_given : (Given shows before → ⊥) → number ≡ number_of Draft
  -- "A refused step changes nothing."
  pub kept : (number ≡ 0 → ⊥) → after ≡ before

-- 273 bytes become a fresh draft, whatever they held; bytes of another length are no draft, and stay
pub record Begins (before after : List ℕ) (number : ℕ) : Type 0 where
  pub begun : length before ≡ 273 → (number ≡ 0) × BytesShow after fresh
  pub other : (length before ≡ 273 → ⊥) → (number ≡ number_of Draft) × (after ≡ before)
