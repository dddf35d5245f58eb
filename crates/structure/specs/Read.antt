-- What packed records state: document 01, "The drawn build", and document 02, P7: copies.
use Rattle.std.specs.Prelude.{Bool, false, cond, ◌&&◌, ◌||◌, List, [], ◌∷◌, ℕ, zero, suc, eqb, leb, get_or}
use Rattle.semantics.specs.Structure.{Copies, none, one, two, three, four, number, Structure}
use Rattle.structure.specs.declared.record.Record.{Record}
use Rattle.structure.specs.Record.{record_in, records, worlds_of}

-- does some number below the bound pass the test
unfoldable pub some : (ℕ → Bool) → ℕ → Bool
some p zero = false
some p (suc n) = some p n || p n

-- kind 1: the fact p holds at the world w
abbrev pub states_fact : Record → ℕ → ℕ → Bool
states_fact r p w = eqb r.kind 1 && eqb r.name p && eqb w r.world

-- kind 2: a link of the relation leads from v to w
abbrev pub states_link : Record → ℕ → ℕ → ℕ → Bool
states_link r relation v w = eqb r.kind 2 && eqb r.name relation && eqb v r.world && eqb w r.to

-- the last two bits of a link are its copies less 1; two bits spell no number above 3
abbrev pub copies_of : ℕ → Copies
copies_of field = get_or (one ∷ two ∷ three ∷ four ∷ []) field four

-- the copies that a record states of the link of the relation from v to w
abbrev pub stated_copies : Record → ℕ → ℕ → ℕ → Copies
stated_copies r relation v w = cond (states_link r relation v w) (copies_of r.copies) none

-- the greatest of the first n numbers of copies
unfoldable pub greatest : (ℕ → Copies) → ℕ → Copies
greatest f zero = none
greatest f (suc n) = cond (leb (number (f n)) (number (greatest f n))) (greatest f n) (f n)

-- the structure that the first n records state. A fact that no record states does not hold; a repeated one adds nothing. Of a repeated link the greatest
-- number of copies counts
unfoldable pub stated : (ℕ → Record) → ℕ → Structure
stated row n = record {
  worlds = worlds_of row;
  holds = λ p w. some (λ i. states_fact (row i) p w) n;
  links = λ relation v w. greatest (λ i. stated_copies (row i) relation v w) n;
}

-- the structure that the bytes pack
abbrev pub structure_of : List ℕ → Structure
structure_of bytes = stated (record_in bytes) (records bytes)
