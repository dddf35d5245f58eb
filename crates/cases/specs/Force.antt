-- What follows at once from what is wanted and from what was learnt, without a split.
use Rattle.std.specs.Prelude.{◌≡◌, ◌⊎◌, Bool, true, false, not, Option, Some, None, ℕ, ◌<◌}
use Rattle.semantics.specs.Structure.{Structure}
use Rattle.sets.specs.Set.{member}
use Rattle.table.specs.declared.entry.Entry.{Entry}
use Rattle.tableau.specs.Wants.{truth_at}
use Rattle.memory.specs.declared.learnt.Ruled.{Ruled}
use Rattle.wants.specs.declared.Wants.{Wants}
use Rattle.wants.specs.Outcome.{MeetsW}
use Rattle.cases.specs.World.{serving, Ready}

-- the entries that are ruled out to be b
abbrev pub never : Ruled → (b : Bool) → ℕ → Bool
never r true = member r.yes
never r false = member r.no

module _ (entry : ℕ → Entry) where
  -- entry i is b at every world that is as wanted
  abbrev pub Shown : Bool → ℕ → Wants → Type 0
  Shown b i w = (s : Structure) (u : ℕ) → u < s.worlds → MeetsW entry s u w → truth_at entry s u i ≡ b

  -- what is ruled out is so at no world that is as wanted
  abbrev pub RuledFor : Wants → Ruled → Type 0
  RuledFor w r = (b : Bool) (i : ℕ) → never r b i ≡ true → Shown (not b) i w

  -- what is known of entry i, where b is asked for
  abbrev pub KnownIs : Bool → ℕ → Wants → Option Bool → Type 0
  KnownIs b i w (Some true) = Shown b i w
  KnownIs b i w (Some false) = Shown (not b) i w
  KnownIs b i w None = Unit {0}

  -- a part of entry d that is as it serves at every world that is as wanted
  abbrev pub LeftIs : ℕ → Wants → Option ℕ → Type 0
  LeftIs d w (Some i) = ((i ≡ (entry d).first) ⊎ (i ≡ (entry d).second)) × Shown (serving entry d) i w
  LeftIs d w None = Unit {0}

  -- v says the same as w
  pub record Forced (n : ℕ) (w : Wants) (bound depth : ℕ) (v : Wants) : Type 0 where
    pub ready : Ready entry n v bound depth
    pub sound : (s : Structure) (u : ℕ) → MeetsW entry s u v → MeetsW entry s u w
    pub complete : (s : Structure) (u : ℕ) → u < s.worlds → MeetsW entry s u w → MeetsW entry s u v

  abbrev pub ForcedIs : ℕ → Wants → ℕ → ℕ → Option Wants → Type 0
  ForcedIs n w bound depth (Some v) = Forced n w bound depth v
  ForcedIs n w bound depth None = (s : Structure) (u : ℕ) → u < s.worlds → MeetsW entry s u w → ⊥
