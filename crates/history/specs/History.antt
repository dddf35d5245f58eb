-- Drafts to return to: document 02, P9, in its words. A history is a list of steps from a fresh draft on; it keeps what was saved as a
-- copy of the entries.
use Rattle.std.specs.Prelude.{Option, None, Some, is_none, if◌then◌else◌, Ok, Err, ◌||◌, List, [], ◌∷◌, ◌++◌, ℕ, eqb, leb, ltb, length}
use Rattle.faults.specs.declared.Fault.TheVariants.{TableLength, Draft}
use Rattle.faults.specs.Verdict.{Verdict, refuse_if, and_then}
use Rattle.table.specs.Entry.{entry_of}
use Rattle.table.specs.Check.{entry_verdict}
use Rattle.history.specs.declared.Step.{Step}
use Rattle.history.specs.declared.Step.TheVariants.{Add, Save, Back}

-- the entries, packed as in a table, and what is saved under each name
pub record State : Type 0 where
  pub entries : List ℕ
  pub saved : ℕ → Option (List ℕ)

-- "A fresh draft is empty with no name saved."
abbrev pub fresh : State
fresh = record { entries = []; saved = λ name. None }

-- "forgets names saved with more entries" than so many
abbrev pub remembered : ℕ → Option (List ℕ) → Option (List ℕ)
remembered many None = None
remembered many (Some copy) = if leb (length copy) many then Some copy else None

-- "Coming back restores exactly the saved entries"
abbrev pub restored : Option (List ℕ) → State → State
restored None s = s
restored (Some copy) s = record { entries = copy; saved = λ name. remembered (length copy) (s.saved name) }

-- what a step makes of a state, if it is not refused: ".. adds entries, saves the draft under a name 0 to 15 and comes back to it";
-- "Saving to a used name replaces it."
abbrev pub taken : Step → State → State
taken (Add entry) s = record { entries = s.entries ++ (entry ∷ []); saved = s.saved }
taken (Save name) s = record { entries = s.entries; saved = λ n. if eqb n name then Some s.entries else s.saved n }
taken (Back name) s = restored (s.saved name) s

-- "Adding a 65th entry gives 1, a bad entry gives 2, 3 or 4"; 16 for "a name over 15 or, when coming back, one not saved"
abbrev pub verdict : Step → State → Verdict
verdict (Add entry) s =
    and_then (refuse_if (leb 64 (length s.entries)) TableLength) (entry_verdict (entry_of entry) (length s.entries))
verdict (Save name) s = refuse_if (ltb 15 name) Draft
verdict (Back name) s = refuse_if (ltb 15 name || is_none (s.saved name)) Draft

-- "A refused step changes nothing": the next of two where the verdict accepts, the present one where it refuses
abbrev pub unless : {A : Type 0} → Verdict → A → A → A
unless (Ok tt) next now = next
unless (Err f) next now = now

abbrev pub next : Step → State → State
next step s = unless (verdict step s) (taken step s) s

-- what a history gives, its latest step first
unfoldable pub state : List Step → State
state [] = fresh
state (step ∷ earlier) = next step (state earlier)
