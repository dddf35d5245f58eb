-- What entries ask of a structure, and where the masks hold it. An inner contract.
use Rattle.std.specs.Prelude.{◌≡◌, Bool, true, false, List, ℕ, ◌+◌, ◌*◌, ◌≤◌, ◌<◌, length, get_or}
use Rattle.semantics.specs.Structure.{Structure}
use Rattle.table.specs.declared.entry.Entry.{Entry}
use Rattle.table.specs.Entry.{entry_in, size}
use Rattle.table.specs.Check.{table_verdict}
use Rattle.structure.specs.Read.{structure_of}
use Rattle.structure.specs.Masks.{mask_of, place_of, Layout, Leveled}
use Rattle.structure.specs.Check.{structure_verdict}
use Rattle.truth_table.specs.declared.entry_word.Grid.{Grid}
use Rattle.truth_table.specs.declared.Plan.{Plan}
use Rattle.truth_table.specs.declared.places.Part.{Part}
use Rattle.truth_table.specs.Board.{Filled}
use Rattle.faults.specs.Verdict.{accepted}

-- a call that is not refused
pub record Called (bytes packed : List ℕ) (words : ℕ) : Type 0 where
  pub table : table_verdict bytes ≡ accepted
  pub structure : structure_verdict packed ≡ accepted
  pub space : size bytes ≤ words

-- the entry asks for the fact of its name: kind 2; for the links of that relation: kinds 6 and 7
abbrev pub Asks : Entry → Bool → Type 0
Asks e false = e.kind ≡ 2
Asks e true = 6 ≤ e.kind

-- how a row lies, in numbers that are known to fit: at one level or at four, for at most 64 worlds, from a place of 16 bits on
pub record Sized (grid : Grid) (at : ℕ) : Type 0 where
  pub some : 1 ≤ grid.levels
  pub few : grid.levels ≤ 4
  pub four : (grid.levels ≡ 1 → ⊥) → grid.levels ≡ 4
  pub narrow : grid.width ≤ 64
  pub near : at < 65536

-- the row of a relation: the worlds led to from v, for each v below its width, at each level; from no other world does a link lead, and no
-- link has more copies than there are levels
pub record LinkRow (s : Structure) (relation : ℕ) (at : ℕ) (grid : Grid) : Type 0 where
  pub narrow : grid.width ≤ s.worlds
  pub below : (v t : ℕ) → v < grid.width → t < grid.levels → get_or grid.masks.now (grid.levels * (at + v) + t) 0 ≡ mask_of s true relation v t
  pub behind : (v t : ℕ) → grid.width ≤ v → v < s.worlds → mask_of s true relation v t ≡ 0
  pub above : (v t : ℕ) → grid.levels ≤ t → mask_of s true relation v t ≡ 0

-- what the entry asks for stands in the masks, from the place on
pub record Served (s : Structure) (e : Entry) (at : ℕ) (grid : Grid) : Type 0 where
  pub fact : Asks e false → get_or grid.masks.now (grid.levels * at) 0 ≡ mask_of s false e.name 0 0
  pub links : Asks e true → LinkRow s e.name at grid
  pub room : Asks e true → grid.levels * (at + grid.width) ≤ length grid.masks.now

-- each fact and relation that one of the entries from `from` to before `to` asks for has a place of its own, and `rows` has it for each such entry
pub record Laid (entry : ℕ → Entry) (from to worlds room : ℕ) (places rows : List ℕ) : Type 0 where
  pub layout : Layout worlds room places
  pub row : (i : ℕ) → from ≤ i → i < to → (k : Bool) → Asks (entry i) k
      → (get_or rows i 0 ≡ place_of places k (entry i).name) × (0 < get_or rows i 0)

-- the entries of a part of a table are laid out, for so many worlds
pub record PartLaid (bytes : List ℕ) (worlds : ℕ) (part : Part) (places rows : List ℕ) : Type 0 where
  pub ordered : part.from ≤ part.to
  pub inside : part.to ≤ size bytes
  pub room : part.levels * part.used ≤ 4160
  pub laid : Laid (entry_in bytes) part.from part.to worlds part.used places rows

-- a call that is not refused, and a part of its table that is laid out, at levels enough for the links
pub record Ready (plan : Plan) (words : ℕ) : Type 0 where
  pub called : Called plan.table.now plan.packed.now words
  pub leveled : Leveled plan.packed.now plan.part.levels
  pub laid : PartLaid plan.table.now (structure_of plan.packed.now).worlds plan.part plan.places.now plan.rows.now

-- the places after a name has come to them: it has one of its own, and what had one keeps it
pub record Extended (worlds room : ℕ) (k : Bool) (name : ℕ) (before after : List ℕ) : Type 0 where
  pub layout : Layout worlds room after
  pub own : 0 < place_of after k name
  pub kept : (k' : Bool) (name' : ℕ) → name' < 256 → 0 < place_of before k' name' → place_of after k' name' ≡ place_of before k' name'

-- the truth table goes on: where the first `from` words held it, the first `to` do
abbrev pub GoesOn : List ℕ → List ℕ → (from to : ℕ) → List ℕ → List ℕ → Type 0
GoesOn bytes packed from to words after =
    (before : List ℕ) → Filled (structure_of packed) (entry_in bytes) from before words → Filled (structure_of packed) (entry_in bytes) to before after

-- it goes on by a part
abbrev pub PartFilled : Plan → List ℕ → List ℕ → Type 0
PartFilled plan words after = GoesOn plan.table.now plan.packed.now plan.part.from plan.part.to words after
