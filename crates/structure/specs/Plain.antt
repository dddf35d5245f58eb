-- Drawings before document 02, P7, by document 01 alone: the last two bits of a link are zero bits, and a link is stated or not. Where these bits are 0,
-- a drawing reads as before; this is what it read as.
use Rattle.std.specs.Prelude.{◌≡◌, Bool, not, ◌&&◌, ◌||◌, List, ℕ, ◌<◌, eqb, length}
use Rattle.semantics.specs.Plain.{Plain}
use Rattle.faults.specs.declared.Fault.TheVariants.{StructureLength, World, Record as BadRecord}
use Rattle.faults.specs.Verdict.{Verdict, refuse_if, and_then, each}
use Rattle.structure.specs.declared.record.Record.{Record}
use Rattle.structure.specs.Record.{record_in, records, worlds_of}
use Rattle.structure.specs.Read.{some, states_fact, states_link}
use Rattle.structure.specs.Check.{record_faulty, world_faulty, length_faulty}

-- the last two bits of every link are 0
abbrev pub NoCopies : List ℕ → Type 0
NoCopies bytes = (i : ℕ) → i < records bytes → (record_in bytes i).kind ≡ 2 → (record_in bytes i).copies ≡ 0

-- 7, of those bits too
abbrev pub plain_faulty : Record → ℕ → Bool
plain_faulty r i = record_faulty r i || (eqb r.kind 2 && not (eqb r.copies 0))

-- 7, then 8
abbrev pub plain_record_verdict : Record → ℕ → ℕ → Verdict
plain_record_verdict r i worlds = and_then (refuse_if (plain_faulty r i) BadRecord) (refuse_if (world_faulty r worlds) World)

-- 6; then record by record 7, 8
abbrev pub plain_verdict : List ℕ → Verdict
plain_verdict bytes =
    let row = record_in bytes in
    and_then (refuse_if (length_faulty (length bytes)) StructureLength) (each (λ i. plain_record_verdict (row i) i (worlds_of row)) (records bytes))

-- the structure that the bytes pack
abbrev pub plain_structure : List ℕ → Plain
plain_structure bytes = record {
  worlds = worlds_of (record_in bytes);
  holds = λ p w. some (λ i. states_fact (record_in bytes i) p w) (records bytes);
  links = λ relation v w. some (λ i. states_link (record_in bytes i) relation v w) (records bytes);
}
