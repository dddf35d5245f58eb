-- What wanting one entry more comes to: settled sets that say no more and no less, or none, a clash that no world escapes.
use Rattle.std.specs.Prelude.{◌≡◌, ◌⊎◌, Bool, true, Option, Some, None, ℕ, ◌<◌, ◌≤◌}
use Rattle.semantics.specs.Structure.{Structure}
use Rattle.sets.specs.Set.{member, nothing, removed}
use Rattle.table.specs.declared.entry.Entry.{Entry}
use Rattle.table.specs.Formulas.{depth_at}
use Rattle.table.specs.Formed.{WellFormed}
use Rattle.tableau.specs.Wants.{truth_at, wanted, Meets, Settled, Grows}
use Rattle.wants.specs.declared.Wants.{Wants}

-- the entries wanted b
abbrev pub wanted_w : Wants → Bool → ℕ → Bool
wanted_w w = wanted (member w.yes) (member w.no)

-- nothing is wanted
pub record NothingWanted (w : Wants) : Type 0 where
  pub yes : member w.yes ≡ nothing
  pub no : member w.no ≡ nothing
  pub pending : member w.pending ≡ nothing

-- more is wanted
abbrev pub GrowsW : Wants → Wants → Type 0
GrowsW w w' = Grows (member w.yes) (member w.no) (member w'.yes) (member w'.no)

module _ (entry : ℕ → Entry) where
  -- the world v of s is as wanted
  abbrev pub MeetsW : Structure → ℕ → Wants → Type 0
  MeetsW s v w = Meets entry s v (member w.yes) (member w.no)

  -- no world that is as wanted has entry e as b
  abbrev pub Refuted : Bool → ℕ → Wants → Type 0
  Refuted b e w = (s : Structure) (v : ℕ) → MeetsW s v w → truth_at entry s v e ≡ b → ⊥

  module _ (n : ℕ) where
    -- every rule has been applied to the entries wanted, which are below n
    abbrev pub SettledW : Wants → Type 0
    SettledW w = Settled entry n (member w.yes) (member w.no) (member w.pending)

    -- what is asked before entry e may be wanted besides
    pub record Asked (e : ℕ) (w : Wants) : Type 0 where
      pub formed : WellFormed entry n
      pub few : n ≤ 64
      pub inside : e < n
      pub settled : SettledW w

    -- Entry e is wanted b besides: w has become w'.
    pub record Taken (b : Bool) (e : ℕ) (w w' : Wants) : Type 0 where
      pub settled : SettledW w'
      pub grows : GrowsW w w'
      pub has : wanted_w w' b e ≡ true
      -- what has come in besides follows
      pub meets : (s : Structure) (v : ℕ) → MeetsW s v w → truth_at entry s v e ≡ b → MeetsW s v w'
      pub pending_new : (i : ℕ) → member w'.pending i ≡ true → (member w.pending i ≡ true) ⊎ (i ≤ e)
      -- nor is it deeper than the entry
      pub no_deeper : (c : Bool) (i : ℕ) → wanted_w w' c i ≡ true → (wanted_w w c i ≡ true) ⊎ (depth_at entry i ≤ depth_at entry e)

    -- the outcome of wanting entry e to be b besides
    abbrev pub OutcomeIs : Bool → ℕ → Wants → Option Wants → Type 0
    OutcomeIs b e w (Some w') = Taken b e w w'
    OutcomeIs b e w None = Refuted b e w

-- what it was, but that entry d is not pending
abbrev pub Lightened : ℕ → Wants → Wants → Type 0
Lightened d v u = (u.yes ≡ v.yes) × (u.no ≡ v.no) × (member u.pending ≡ removed (member v.pending) d)
