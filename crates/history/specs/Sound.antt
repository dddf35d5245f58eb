-- Which drafts a sequence of steps gives, told by the draft alone.
use Rattle.std.specs.Prelude.{◌≡◌, ◌⊎◌, ℕ, ◌<◌, ◌≤◌, length, get_or}
use Rattle.table.specs.Entry.{entry_of}
use Rattle.table.specs.Check.{entry_verdict}
use Rattle.history.specs.declared.Draft.{Draft}
use Rattle.faults.specs.Verdict.{accepted}

-- as long as the arrays of a draft are
pub record Whole (d : Draft) : Type 0 where
  pub entries : length d.entries ≡ 64
  pub saved : length d.saved ≡ 16

-- each entry is good at its place, the words behind are 0, and no name is saved with more entries than there are
pub record Sound (d : Draft) : Type 0 where
  pub whole : Whole d
  pub few : d.count ≤ 64
  pub good : (i : ℕ) → i < d.count → entry_verdict (entry_of (get_or d.entries i 0)) i ≡ accepted
  pub behind : (i : ℕ) → d.count ≤ i → get_or d.entries i 0 ≡ 0
  pub lengths : (name : ℕ) → name < 16 → (get_or d.saved name 0 ≡ 255) ⊎ (get_or d.saved name 0 ≤ d.count)
