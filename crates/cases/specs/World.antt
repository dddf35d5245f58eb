-- What is asked of a world: settled wants, of which the pending ones are split one after the other.
use Rattle.std.specs.Prelude.{◌≡◌, Bool, true, false, not, Option, Some, None, List, ℕ, ◌<◌, ◌≤◌, eqb, length}
use Rattle.semantics.specs.Structure.{Structure}
use Rattle.sets.specs.Set.{member}
use Rattle.table.specs.declared.entry.Entry.{Entry}
use Rattle.table.specs.Formulas.{depth_at}
use Rattle.table.specs.Formed.{WellFormed}
use Rattle.tableau.specs.Wants.{truth_at, Sat}
use Rattle.wants.specs.declared.Wants.{Wants}
use Rattle.wants.specs.Outcome.{wanted_w, MeetsW, SettledW}
use Rattle.cases.specs.Levels.{Roomy, Remembers}

module _ (entry : ℕ → Entry) where
  -- some world of some structure is as wanted
  abbrev pub SatW : Wants → Type 0
  SatW w = Sat entry (member w.yes) (member w.no)

  -- a pending entry is an or that is wanted true, or else an and that is wanted false: either of its parts as this is enough
  abbrev pub serving : ℕ → Bool
  serving d = eqb (entry d).kind 5

  -- the two cases of a split: the first part is as it serves; it is not, and the second part is
  abbrev pub CaseOf : Bool → ℕ → Structure → ℕ → Type 0
  CaseOf true d s v = truth_at entry s v (entry d).first ≡ serving d
  CaseOf false d s v = (truth_at entry s v (entry d).first ≡ not (serving d)) × (truth_at entry s v (entry d).second ≡ serving d)

  -- what is known of what is wanted: nothing pending from the bound on, nothing deeper than the depth
  pub record Ready (n : ℕ) (w : Wants) (bound depth : ℕ) : Type 0 where
    pub formed : WellFormed entry n
    pub few : n ≤ 64
    pub settled : SettledW entry n w
    pub pending_below : (i : ℕ) → member w.pending i ≡ true → i < bound
    pub shallow : (c : Bool) (i : ℕ) → wanted_w w c i ≡ true → depth_at entry i ≤ depth

  -- the same, with the words that are lent for it
  pub record WorldAsked (n : ℕ) (w : Wants) (bound depth level : ℕ) (work : List ℕ) : Type 0 where
    pub ready : Ready n w bound depth
    pub small : bound ≤ 64
    pub room : Roomy entry n depth level (length work)
    pub memory : Remembers entry depth level work

  -- entry d is one of those pending
  pub record Waiting (n : ℕ) (w : Wants) (d bound depth : ℕ) : Type 0 where
    pub ready : Ready n w bound depth
    pub here : member w.pending d ≡ true

  -- v says of the case what w says of all
  pub record Branch (n : ℕ) (case : Bool) (d : ℕ) (w : Wants) (depth : ℕ) (v : Wants) : Type 0 where
    pub ready : Ready n v d depth
    pub sound : SatW v → SatW w
    pub complete : (s : Structure) (u : ℕ) → MeetsW entry s u w → CaseOf case d s u → MeetsW entry s u v

  abbrev pub BranchIs : ℕ → Bool → ℕ → Wants → ℕ → Option Wants → Type 0
  BranchIs n case d w depth (Some v) = Branch n case d w depth v
  BranchIs n case d w depth None = (s : Structure) (u : ℕ) → MeetsW entry s u w → CaseOf case d s u → ⊥
