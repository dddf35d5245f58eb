-- What the slots leave unmet of the needs (c true), and what room they leave under the limits (c false).
use Rattle.std.specs.Prelude.{◌≡◌, ◌⊎◌, Bool, cond, List, ℕ, ◌+◌, ◌-◌, ◌≤◌, min, max}
use Rattle.sets.specs.Word.{bit_at}
use Rattle.table.specs.declared.entry.Entry.{Entry}
use Rattle.tableau.specs.Search.{Slot, Problem, Asks}
use Rattle.counting.specs.Question.{bound_of, Holds}
use Rattle.counting.specs.Stack.{tally_of}

-- what entry i, with the fields e, lacks behind the slots as a need; the room under it as a limit
abbrev pub left_of : (c : Bool) → Entry → ℕ → List Slot → ℕ
left_of c e i slots = bound_of c e - tally_of c i slots

-- where nothing is asked, needs lack nothing, and limits have room for all that any need asks for
abbrev pub unasked : (c : Bool) → ℕ
unasked c = cond c 0 4096

-- the greater of two lacks; the smaller of two rooms
abbrev pub tighter : (c : Bool) (l r : ℕ) → ℕ
tighter c l r = cond c (max l r) (min l r)

module _ (P : Problem) (slots : List Slot) (b : ℕ) (c : Bool) where
  -- some need in the set b lacks just r; some limit outside b has room for just r
  pub record Attained (r : ℕ) : Type 0 where
    pub entry : ℕ
    pub asks : Asks P c entry
    pub counts : bit_at b entry ≡ c
    pub exact : tally_of c entry slots + r ≡ bound_of c (P.entry entry)

  -- of some entries, no need in the set b lacks more than r; every limit outside b has room for r more
  pub record Left (among : ℕ → Type 0) (r : ℕ) : Type 0 where
    pub holds : (i : ℕ) → among i → Asks P c i → bit_at b i ≡ c → Holds c (bound_of c (P.entry i)) (tally_of c i slots + r)
    pub attained : (r ≡ unasked c) ⊎ Attained r
    pub small : r ≤ 4096
