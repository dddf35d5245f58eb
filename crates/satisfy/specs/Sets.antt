-- The question through two sets: is there a world where every entry of one is true and every entry of the other false.
use Rattle.std.specs.Prelude.{◌≡◌, Bool, true, false, Option, Some, None, List, ℕ, ◌<◌, ◌≤◌, length}
use Rattle.semantics.specs.Structure.{Structure}
use Rattle.sets.specs.Set.{nothing, Within}
use Rattle.table.specs.declared.entry.Entry.{Entry}
use Rattle.table.specs.Formulas.{depth_at}
use Rattle.table.specs.Formed.{WellFormed}
use Rattle.tableau.specs.Wants.{truth_at, wanted, Sat}
use Rattle.wants.specs.declared.Wants.{Wants}
use Rattle.wants.specs.Outcome.{wanted_w, GrowsW, MeetsW, SettledW}
use Rattle.cases.specs.World.{SatW, Ready}
use Rattle.cases.specs.Levels.{Roomy, Remembers}

module _ (entry : ℕ → Entry) where
  -- every entry of the set is b at the world v of s
  abbrev pub AllSo : Bool → (ℕ → Bool) → Structure → ℕ → Type 0
  AllSo b set s v = (i : ℕ) → set i ≡ true → truth_at entry s v i ≡ b

  module _ (n : ℕ) where
    -- the set may be wanted besides
    pub record SetAsked (set : ℕ → Bool) (w : Wants) : Type 0 where
      pub formed : WellFormed entry n
      pub few : n ≤ 64
      pub below : (i : ℕ) → set i ≡ true → i < n
      pub settled : SettledW entry n w

    -- The entries of the set, but for the rest, are wanted b besides: w has become v.
    pub record Taking (b : Bool) (set rest : ℕ → Bool) (w v : Wants) : Type 0 where
      pub settled : SettledW entry n v
      pub grows : GrowsW w v
      pub has : (i : ℕ) → set i ≡ true → rest i ≡ false → wanted_w v b i ≡ true
      pub meets : (s : Structure) (u : ℕ) → MeetsW entry s u w → AllSo b set s u → MeetsW entry s u v
      pub shallow : (d : ℕ) → ((i : ℕ) → set i ≡ true → depth_at entry i ≤ d) → ((c : Bool) (i : ℕ) → wanted_w w c i ≡ true → depth_at entry i ≤ d)
          → (c : Bool) (i : ℕ) → wanted_w v c i ≡ true → depth_at entry i ≤ d
      pub within : Within rest set

    -- the outcome of wanting a whole set to be b besides
    abbrev pub TakenIs : Bool → (ℕ → Bool) → Wants → Option Wants → Type 0
    TakenIs b set w (Some v) = Taking b set nothing w v
    TakenIs b set w None = (s : Structure) (u : ℕ) → MeetsW entry s u w → AllSo b set s u → ⊥

    -- the two sets: their entries are below n and no deeper than the depth
    pub record SetsAsked (yes no : ℕ → Bool) (depth : ℕ) : Type 0 where
      pub formed : WellFormed entry n
      pub few : n ≤ 64
      pub below : (b : Bool) (i : ℕ) → wanted yes no b i ≡ true → i < n
      pub shallow : (b : Bool) (i : ℕ) → wanted yes no b i ≡ true → depth_at entry i ≤ depth

    -- v says the same as the two sets
    pub record Settling (yes no : ℕ → Bool) (depth : ℕ) (v : Wants) : Type 0 where
      pub ready : Ready entry n v 64 depth
      pub sound : SatW entry v → Sat entry yes no
      pub complete : Sat entry yes no → SatW entry v

    abbrev pub SettlingIs : (ℕ → Bool) → (ℕ → Bool) → ℕ → Option Wants → Type 0
    SettlingIs ts fs depth (Some v) = Settling ts fs depth v
    SettlingIs ts fs depth None = Sat entry ts fs → ⊥

    pub record QuestionAsked (yes no : ℕ → Bool) (depth level : ℕ) (work : List ℕ) : Type 0 where
      pub sets : SetsAsked yes no depth
      pub room : Roomy entry n depth level (length work)
      pub memory : Remembers entry depth level work
