-- What the promises of a successor come to: as wants at its world, and as the parts that are true or false there.
use Rattle.std.specs.Prelude.{◌≡◌, Bool, true, false, Option, Some, None, ℕ, suc, ◌<◌, ◌≤◌}
use Rattle.semantics.specs.Structure.{Structure}
use Rattle.semantics.specs.Truth.{truth}
use Rattle.sets.specs.Set.{Within}
use Rattle.table.specs.declared.entry.Entry.{Entry}
use Rattle.table.specs.Formulas.{depth_at}
use Rattle.table.specs.Formed.{WellFormed}
use Rattle.tableau.specs.Wants.{truth_at, wanted}
use Rattle.tableau.specs.Counting.{bound, part_of, Feasible}
use Rattle.tableau.specs.Search.{Problem, asking}
use Rattle.wants.specs.declared.Wants.{Wants}
use Rattle.wants.specs.Outcome.{wanted_w, GrowsW, MeetsW, SettledW}
use Rattle.cases.specs.World.{SatW, Ready}

module _ (entry : ℕ → Entry) (n : ℕ) where
  -- w has become w': what `asked` says of an entry e, true or false, is wanted besides
  pub record Held (asked : Bool → Bool) (e : ℕ) (w w' : Wants) : Type 0 where
    pub settled : SettledW entry n w'
    pub grows : GrowsW w w'
    pub has : (b : Bool) → asked b ≡ true → wanted_w w' b e ≡ true
    pub meets : (s : Structure) (v : ℕ) → MeetsW entry s v w → ((b : Bool) → asked b ≡ true → truth_at entry s v e ≡ b) → MeetsW entry s v w'
    pub shallow : (d : ℕ) → depth_at entry e ≤ d → ((c : Bool) (i : ℕ) → wanted_w w c i ≡ true → depth_at entry i ≤ d)
        → (c : Bool) (i : ℕ) → wanted_w w' c i ≡ true → depth_at entry i ≤ d

  abbrev pub AllIs : (Bool → Bool) → ℕ → Wants → Option Wants → Type 0
  AllIs asked e w (Some w') = Held asked e w w'
  AllIs asked e w None = (s : Structure) (v : ℕ) → MeetsW entry s v w → ((b : Bool) → asked b ≡ true → truth_at entry s v e ≡ b) → ⊥

  -- the part of entry i as it is asked
  abbrev pub PartIs : (Bool → Bool) → ℕ → Wants → Option Wants → Type 0
  PartIs asked i = AllIs asked (entry i).first

-- b is asked, if so
abbrev pub only_if : Bool → Bool → Bool → Bool
only_if so true true = so
only_if so true false = false
only_if so false true = false
only_if so false false = so

module _ (P : Problem) where
  -- the world keeps the promises: the part of a promised need is true there, that of a promised limit is false
  abbrev pub Keeps : (ℕ → Bool) → Structure → ℕ → Type 0
  Keeps promises s u = (c : Bool) (i : ℕ) → promises i ≡ true → bound P.yes P.no (P.entry i) i c ≡ true → truth s (part_of P.entry i) u ≡ c

  -- promises of needs and limits, whose parts are no deeper than the depth
  pub record Promising (promises : ℕ → Bool) (depth : ℕ) : Type 0 where
    pub formed : WellFormed P.entry P.n
    pub few : P.n ≤ 64
    pub below : (b : Bool) (i : ℕ) → wanted P.yes P.no b i ≡ true → i < P.n
    pub within : Within promises (asking P)
    pub shallow : (b : Bool) (i : ℕ) → wanted P.yes P.no b i ≡ true → depth_at P.entry i ≤ suc depth

  -- the promises but those of `rest` are wanted in v, and nothing that does not follow from the promises
  pub record Partly (promises rest : ℕ → Bool) (depth : ℕ) (v : Wants) : Type 0 where
    pub settled : SettledW P.entry P.n v
    pub shallow : (c : Bool) (i : ℕ) → wanted_w v c i ≡ true → depth_at P.entry i ≤ depth
    pub within : Within rest promises
    pub covers : (c : Bool) (i : ℕ) → promises i ≡ true → rest i ≡ false → bound P.yes P.no (P.entry i) i c ≡ true → wanted_w v c (P.entry i).first ≡ true
    pub follows : (s : Structure) (u : ℕ) → Keeps promises s u → MeetsW P.entry s u v

  -- v says what the promises say
  pub record Promised (promises : ℕ → Bool) (depth : ℕ) (v : Wants) : Type 0 where
    pub ready : Ready P.entry P.n v 64 depth
    pub sound : SatW P.entry v → Feasible P.entry P.yes P.no promises
    pub complete : Feasible P.entry P.yes P.no promises → SatW P.entry v

  abbrev pub PromisedIs : (ℕ → Bool) → ℕ → Option Wants → Type 0
  PromisedIs promises depth (Some v) = Promised promises depth v
  PromisedIs promises depth None = Feasible P.entry P.yes P.no promises → ⊥

  -- entry j is the part of a promised need (c true), or of a promised limit (c false)
  abbrev pub HasPart : (promises : ℕ → Bool) (c : Bool) → ℕ → Type 0
  HasPart promises c j = (i : ℕ) × (promises i ≡ true) × (bound P.yes P.no (P.entry i) i c ≡ true) × ((P.entry i).first ≡ j)

  -- the parts of the promised needs (c true), or of the promised limits (c false)
  pub record PartsOf (promises : ℕ → Bool) (c : Bool) (parts : ℕ → Bool) : Type 0 where
    pub every : (i : ℕ) → promises i ≡ true → bound P.yes P.no (P.entry i) i c ≡ true → parts (P.entry i).first ≡ true
    pub only : (j : ℕ) → parts j ≡ true → HasPart promises c j
