-- Which packed structures are accepted, and the number that any other is refused with: document 01, faults 6 to 8 in its order,
-- with document 02, P7: a link's last two bits are no zero bits.
use Rattle.std.specs.Prelude.{Bool, true, false, not, ◌&&◌, ◌||◌, List, [], ◌∷◌, ℕ, ◌%◌, eqb, leb, ltb, length, get_or}
use Rattle.faults.specs.declared.Fault.TheVariants.{StructureLength, World, Record as BadRecord}
use Rattle.faults.specs.Verdict.{Verdict, refuse_if, and_then, each}
use Rattle.structure.specs.declared.record.Record.{Record}
use Rattle.structure.specs.Record.{record_in, records, worlds_of}

-- the first record is not kind 0, or a later one is
abbrev pub misplaced : Record → ℕ → Bool
misplaced r i = (eqb i 0 && not (eqb r.kind 0)) || (not (eqb i 0) && eqb r.kind 0)

-- a zero bit is 1: of the 16 of a header, the 8 of a fact. A link has none
abbrev pub zero_bit_set : Record → Bool
zero_bit_set r =
    not
    (get_or
    ((eqb r.name 0 && eqb r.to 0 && eqb r.copies 0)
    ∷ (eqb r.to 0 && eqb r.copies 0)
    ∷ [])
    r.kind
    true)

-- 7: record i stands in a wrong place, is of kind 3, the greatest that two bits spell, or has a zero bit that is 1
abbrev pub record_faulty : Record → ℕ → Bool
record_faulty r i = misplaced r i || leb 3 r.kind || zero_bit_set r

-- 8: the world of a fact, or one of the two of a link, is not below the number of worlds
abbrev pub world_faulty : Record → ℕ → Bool
world_faulty r worlds = get_or (false ∷ leb worlds r.world ∷ (leb worlds r.world || leb worlds r.to) ∷ []) r.kind false

-- 7, then 8
abbrev pub record_verdict : Record → ℕ → ℕ → Verdict
record_verdict r i worlds = and_then (refuse_if (record_faulty r i) BadRecord) (refuse_if (world_faulty r worlds) World)

-- record by record
abbrev pub records_verdict : (ℕ → Record) → ℕ → Verdict
records_verdict row n = each (λ i. record_verdict (row i) i (worlds_of row)) n

-- 6: length 0, over 3,072 bytes or not a multiple of 3
abbrev pub length_faulty : ℕ → Bool
length_faulty n = eqb n 0 || ltb 3072 n || not (eqb (n % 3) 0)

-- 6; then record by record 7, 8
unfoldable pub structure_verdict : List ℕ → Verdict
structure_verdict bytes =
    and_then (refuse_if (length_faulty (length bytes)) StructureLength) (records_verdict (record_in bytes) (records bytes))
