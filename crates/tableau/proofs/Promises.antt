-- A successor that keeps some promises is a world that is as wanted: the parts of promised needs are wanted true, those of promised limits false.
-- Why: both speak of the truth of the same entries.
use mathlib.Core.Path.{◌≡◌}
use mathlib.Core.Bool.{Bool, true}
use Prim.Native.Nat.{ℕ}
use Rattle.table.specs.declared.entry.Entry.{Entry}
use Rattle.tableau.specs.Wants.{wanted, Sat}
use Rattle.tableau.specs.Counting.{bound, Feasible}

module _ {entry : ℕ → Entry} {yes no promises : ℕ → Bool} where
  -- fewer promises are easier to keep
  pub feasible_fewer : {fewer : ℕ → Bool} → ((i : ℕ) → fewer i ≡ true → promises i ≡ true) → Feasible entry yes no promises → Feasible entry yes no fewer
  feasible_fewer within here =
      record { structure = here.structure; world = here.world; inside = here.inside; keeps = λ c i p. here.keeps c i (within i p) }

  module _ {yes' no' : ℕ → Bool} where
    -- where all of them are wanted
    pub sat_feasible : ((c : Bool) (i : ℕ) → promises i ≡ true → bound yes no (entry i) i c ≡ true → wanted yes' no' c (entry i).first ≡ true)
        → Sat entry yes' no' → Feasible entry yes no promises
    sat_feasible parts sat = record {
      structure = sat.structure;
      world = sat.world;
      inside = sat.inside;
      keeps = λ c i p d. sat.meets.as_wanted c (entry i).first (parts c i p d);
    }
