-- The masks serve every entry: where a part of the table was laid out and the masks are filled, and where nothing is stated.
use mathlib.Core.Path.{◌≡◌, sym}
use mathlib.Core.Bool.{Bool, true, false}
use mathlib.Core.List.{List, []}
use Prim.Native.Nat.{ℕ, ◌+◌, ◌*◌, ◌≤◌, ◌<◌}
use native.Mathlib.Nat.{add-zero, le_refl, le_trans, mul-le-mul}
use native.Mathlib.Omega.{arith}
use lib.ListN.{length, get_or}
use Rattle.table.specs.Entry.{entry_in}
use Rattle.structure.specs.Record.{records}
use Rattle.structure.specs.Read.{structure_of}
use Rattle.structure.specs.Masks.{width_of, height_of, mask_of, Leveled, Masked}
use Rattle.structure.specs.Check.{structure_verdict}
use Rattle.structure.proofs.Masks.{above, bare}
use Rattle.truth_table.specs.declared.entry_word.Grid.{Grid}
use Rattle.truth_table.specs.declared.places.Part.{Part}
use Rattle.truth_table.specs.Masks.{Asks, Served, PartLaid}
use Rattle.faults.specs.Verdict.{accepted}

-- eight bits spell a name
pub named : (bytes : List ℕ) (i : ℕ) → (entry_in bytes i).name < 256
named bytes i = omega arith

module _ (bytes packed places rows : List ℕ) (part : Part) (grid : Grid)
    (width : grid.width ≡ (structure_of packed).worlds) (laid : PartLaid bytes (structure_of packed).worlds part places rows)
    (leveled : Leveled packed grid.levels) (wide : grid.levels * part.used ≤ length grid.masks.now)
    (masked : Masked (structure_of packed) grid.levels places grid.masks.now)
    (i : ℕ) (from : part.from ≤ i) (to : i < part.to) where
  -- a word of the row that an entry asks for
  held : (k : Bool) (v t : ℕ) → Asks (entry_in bytes i) k → v < width_of k (structure_of packed).worlds → t < height_of k grid.levels
      → get_or grid.masks.now (grid.levels * (get_or rows i 0 + v) + t) 0 ≡ mask_of (structure_of packed) k (entry_in bytes i).name v t
  held k v t asks short low =
      let row = laid.laid.row i from to k asks in
      rw row.0 (masked k (entry_in bytes i).name v t (record { named = named bytes i; own = rw row.0 at row.1; short = short; low = low }))

  inside : Asks (entry_in bytes i) true → get_or rows i 0 + (structure_of packed).worlds ≤ part.used
  inside asks = rw (laid.laid.row i from to true asks).0 (laid.laid.layout.inside true (entry_in bytes i).name (named bytes i))

  pub served : Served (structure_of packed) (entry_in bytes i) (get_or rows i 0) grid
  served = record {
    fact = λ asks. rw (add-zero (get_or rows i 0), add-zero) at (held false 0 0 asks (omega arith) (omega arith));
    links = λ asks. record {
      narrow = omega (arith, width);
      below = λ v t short low. held true v t asks (rw width at short) low;
      behind = λ v t far near. absurd (omega (arith, width));
      above = λ v t high. above packed leveled (entry_in bytes i).name v t high;
    };
    room = λ asks. rw width (le_trans (mul-le-mul (le_refl grid.levels) (inside asks)) wide);
  }

module _ (bytes packed : List ℕ) (ok : structure_verdict packed ≡ accepted) (one : records packed ≤ 1) (grid : Grid)
    (empty : grid.masks.now ≡ []) (width : grid.width ≡ 0) where
  pub bare_served : (i : ℕ) → Served (structure_of packed) (entry_in bytes i) 0 grid
  bare_served i =
      let e = entry_in bytes i in
      record {
        fact = λ asks. rw empty (sym (bare packed ok one false e.name 0 0));
        links = λ asks. record {
          narrow = omega (arith, width);
          below = λ v t short low. absurd (omega (arith, width));
          behind = λ v t far near. bare packed ok one true e.name v t;
          above = λ v t high. bare packed ok one true e.name v t;
        };
        room = λ asks. rw (empty, width) (omega arith);
      }
