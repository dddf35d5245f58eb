-- Masks: what records state, as words. A fact has a row of one word, a relation a row with a word for each world that links lead
-- from. Each word of a relation's row stands at some levels: a link of c copies is in its word at the levels 0 to c - 1. Where a Bool tells
-- whose row it is, false is a fact's and true is a relation's. An inner contract.
use Rattle.std.specs.Prelude.{◌≡◌, Bool, true, false, List, ℕ, ◌+◌, ◌*◌, ◌≤◌, ◌<◌, ltb, length, get_or}
use Rattle.std.specs.Int.Bits.{bit_or}
use Rattle.semantics.specs.Structure.{number, Structure}
use Rattle.sets.specs.Word.{word}
use Rattle.structure.specs.declared.record.Record.{Record}
use Rattle.structure.specs.Record.{record_in, records}
use Rattle.structure.specs.Read.{states_fact, stated_copies}

-- how many words a row has
abbrev pub width_of : Bool → ℕ → ℕ
width_of false worlds = 1
width_of true worlds = worlds

-- at how many of the levels its words stand
abbrev pub height_of : Bool → ℕ → ℕ
height_of false levels = 1
height_of true levels = levels

-- word v of a row, at level t: the worlds where the fact holds; the worlds that links of the relation with more than t copies lead to from v
abbrev pub mask_of : Structure → Bool → ℕ → ℕ → ℕ → ℕ
mask_of s false name v t = word (s.holds name) s.worlds
mask_of s true name v t = word (λ w. ltb t (number (s.links name v w))) s.worlds

-- the bits of that word that one record sets
abbrev pub stated_by : Record → Bool → ℕ → ℕ → ℕ → ℕ → Bool
stated_by r false name v t w = states_fact r name w
stated_by r true name v t w = ltb t (number (stated_copies r name v w))

-- where the place of a row stands in a list of 512 places: facts first, then relations
abbrev pub key_of : Bool → ℕ → ℕ
key_of false name = name
key_of true name = 256 + name

-- the place of the first word of a row; 0 for a fact or a relation that has no place of its own
abbrev pub place_of : List ℕ → Bool → ℕ → ℕ
place_of places relation name = get_or places (key_of relation name) 0

-- each row lies in the room, and the words of a row with a place of its own are in no other
pub record Layout (worlds room : ℕ) (places : List ℕ) : Type 0 where
  pub keys : length places ≡ 512
  pub inside : (k : Bool) (name : ℕ) → name < 256 → place_of places k name + width_of k worlds ≤ room
  pub apart : (k k' : Bool) (name name' v v' : ℕ) → name < 256 → name' < 256 → v < width_of k worlds → v' < width_of k' worlds
      → 0 < place_of places k name → place_of places k name + v ≡ place_of places k' name' + v' → key_of k name ≡ key_of k' name'

-- the rows lie in so many words, a word of a row in one for each level
pub record Spread (worlds levels words : ℕ) (places : List ℕ) : Type 0 where
  pub room : ℕ
  pub layout : Layout worlds room places
  pub enough : levels * room ≤ words

-- there is one level, or there are four, and no link has more copies
pub record Leveled (bytes : List ℕ) (levels : ℕ) : Type 0 where
  pub some : 1 ≤ levels
  pub few : levels ≤ 4
  pub four : (levels ≡ 1 → ⊥) → levels ≡ 4
  pub all : (i : ℕ) → i < records bytes → (record_in bytes i).copies < levels

-- a word of a row that has a place of its own, at a level
pub record Placed (worlds levels : ℕ) (places : List ℕ) (k : Bool) (name v t : ℕ) : Type 0 where
  pub named : name < 256
  pub own : 0 < place_of places k name
  pub short : v < width_of k worlds
  pub low : t < height_of k levels

-- where it stands
abbrev pub word_of : ℕ → List ℕ → Bool → ℕ → ℕ → ℕ → ℕ
word_of levels places k name v t = levels * (place_of places k name + v) + t

-- n words from a place on, to which a number came by `or`
pub record Raised (b at n : ℕ) (before after : List ℕ) : Type 0 where
  pub same_length : length after ≡ length before
  pub here : (q : ℕ) → at ≤ q → q < at + n → get_or after q 0 ≡ bit_or (get_or before q 0) b
  pub elsewhere : (q : ℕ) → (at ≤ q → q < at + n → ⊥) → get_or after q 0 ≡ get_or before q 0

-- the masks, to which each such word came with the bits that the record sets
abbrev pub Gained : Record → ℕ → ℕ → List ℕ → List ℕ → List ℕ → Type 0
Gained r worlds levels places before after =
    (k : Bool) (name v t : ℕ) → Placed worlds levels places k name v t
    → get_or after (word_of levels places k name v t) 0 ≡ bit_or (get_or before (word_of levels places k name v t) 0) (word (stated_by r k name v t) worlds)

-- the masks hold what the structure states, wherever a row has a place of its own
abbrev pub Masked : Structure → ℕ → List ℕ → List ℕ → Type 0
Masked s levels places masks =
    (k : Bool) (name v t : ℕ) → Placed s.worlds levels places k name v t
    → get_or masks (word_of levels places k name v t) 0 ≡ mask_of s k name v t
