-- What holds of the search between two steps, and what a step answers: a solution, none, or a set to be decided first.
use Rattle.std.specs.Prelude.{◌≡◌, Option, Some, None, IfSome, List, ℕ, suc, ◌+◌, ◌*◌, ◌<◌, ◌≤◌, length}
use Rattle.std.specs.declared.ops.ControlFlow.{ControlFlow}
use Rattle.std.specs.ControlFlow.{MatchControlFlow}
use Rattle.table.specs.Space.{sum_of_grades}
use Rattle.sets.specs.declared.Set.{Set}
use Rattle.sets.specs.Set.{member, code, Within}
use Rattle.tableau.specs.Search.{Problem, asking, Searching, Solvable, Useful, potential}
use Rattle.counting.specs.declared.Asked.{Asked}
use Rattle.counting.specs.declared.Cursor.{Cursor}
use Rattle.counting.specs.declared.Step.{Step}
use Rattle.counting.specs.Question.{Small}
use Rattle.counting.specs.Stack.{slots_of, FewCopies}

-- the sets that are yet to be tried are those with codes below this, where this one is next
abbrev pub untried : Option Set → ℕ
untried (Some next) = suc (code next)
untried None = 0

-- what is left to be done: it falls with every turn
abbrev pub to_do : List ℕ → Cursor → ℕ
to_do words c = potential (slots_of words c.slots) (untried c.next)

-- the cursor from which a set is tried
abbrev pub trying : (slots : ℕ) → Set → Cursor
trying slots set = record { slots = slots; next = Some set }

module _ (P : Problem) (all : Set) (words : List ℕ) where
  -- k slots stand in the words, and the sets of needs and limits with codes below t are yet to be tried
  pub record Standing (k t : ℕ) : Type 0 where
    pub problem : Small P
    pub all_asking : member all ≡ asking P
    pub room : 2 * sum_of_grades P.entry P.n + 2 ≤ length words
    pub copies : FewCopies words k
    pub searching : Searching P (slots_of words k) t

  -- the search stands at the cursor
  pub record At (c : Cursor) : Type 0 where
    pub standing : Standing c.slots (untried c.next)
    pub within : IfSome c.next (λ set. Within (member set) (member all))

  -- the search stands before the set asked for: the copies of it are to be taken, if it is fit
  pub record AskedIs (a : Asked) : Type 0 where
    pub at : At (trying a.slots a.set)
    pub useful : Useful P (slots_of words a.slots) (code a.set) a.copies
    pub positive : 0 < a.copies
    pub space : 2 * a.slots + 2 ≤ length words

  -- the search has come nearer to its end
  pub record Nearer (begun : ℕ) (c : Cursor) : Type 0 where
    pub at : At c
    pub less : to_do words c < begun

  -- the answer of a step that was begun with so much to do
  abbrev pub StepIs : (begun : ℕ) → Step → Type 0
  StepIs begun Step.Found = Solvable P
  StepIs begun Step.Failed = Solvable P → ⊥
  StepIs begun (Step.Ask a) = AskedIs a × (to_do words (trying a.slots a.set) ≤ begun)

  -- the search goes on, or stops with an answer
  abbrev pub TurnIs : (begun : ℕ) → ControlFlow Step Cursor → Type 0
  TurnIs begun turn = MatchControlFlow turn (Nearer begun) (StepIs begun)

-- the cursor behind a set that has been tried
pub record Behind (all tried : Set) (slots : ℕ) (c : Cursor) : Type 0 where
  pub same_slots : c.slots ≡ slots
  pub lower : untried c.next ≤ code tried
  pub at : (P : Problem) (words : List ℕ) → Standing P all words slots (code tried) → At P all words c
