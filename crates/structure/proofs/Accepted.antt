-- What an accepted structure is known to meet: the worlds that its facts and links name are below its number of worlds, and its
-- first record is the header.
use mathlib.Core.Path.{◌≡◌}
use mathlib.Core.Bool.{false, not, ◌||◌}
use mathlib.Core.List.{List}
use Prim.Native.Nat.{ℕ, ◌<◌}
use lib.Dec.{eqb, leb}
use lib.ListN.{length}
use borrow.Author.Tests.{leb-false, eqb-true, not-false}
use Rattle.faults.specs.declared.Fault.TheVariants.{StructureLength, World, Record as BadRecord}
use Rattle.faults.specs.Verdict.{accepted, refuse_if}
use Rattle.faults.proofs.Each.{not_refused, neither, both_accepted, each_accepted}
use Rattle.structure.specs.declared.record.Record.{Record}
use Rattle.structure.specs.Record.{record_in, records, worlds_of}
use Rattle.structure.specs.Check.{misplaced, zero_bit_set, record_faulty, world_faulty, length_faulty, structure_verdict}

-- a record that names no world from the bound on
pub record Within (r : Record) (worlds : ℕ) : Type 0 where
  pub fact : r.kind ≡ 1 → r.world < worlds
  pub link : r.kind ≡ 2 → (r.world < worlds) × (r.to < worlds)

within : (r : Record) (worlds : ℕ) → world_faulty r worlds ≡ false → Within r worlds
within r worlds ok = record {
  fact = λ k. leb-false worlds r.world (rw k at ok);
  link = λ k.
      let both = neither (leb worlds r.world) (leb worlds r.to) (rw k at ok) in
      (leb-false worlds r.world both.0, leb-false worlds r.to both.1);
}

-- each record of an accepted structure has neither fault
sound : (bytes : List ℕ) → structure_verdict bytes ≡ accepted → (i : ℕ) → i < records bytes
    → let r = record_in bytes i in
    (record_faulty r i ≡ false) × (world_faulty r (worlds_of (record_in bytes)) ≡ false)
unfolding structure_verdict
sound bytes ok i h =
    let r = record_in bytes i in
    let worlds = worlds_of (record_in bytes) in
    let all = (both_accepted (refuse_if (length_faulty (length bytes)) StructureLength) _ ok).1 in
    let here = both_accepted (refuse_if (record_faulty r i) BadRecord) _ (each_accepted _ (records bytes) all i h) in
    (not_refused (record_faulty r i) BadRecord here.0, not_refused (world_faulty r worlds) World here.1)

pub accepted_within : (bytes : List ℕ) → structure_verdict bytes ≡ accepted
    → (i : ℕ) → i < records bytes → Within (record_in bytes i) (worlds_of (record_in bytes))
accepted_within bytes ok i h = within (record_in bytes i) _ (sound bytes ok i h).1

-- the first record is the header
pub header_first : (bytes : List ℕ) → structure_verdict bytes ≡ accepted → 0 < records bytes → (record_in bytes 0).kind ≡ 0
header_first bytes ok h =
    let r = record_in bytes 0 in
    let known = (neither (misplaced r 0 || leb 3 r.kind) (zero_bit_set r) (sound bytes ok 0 h).0).0 in
    let placed = (neither (misplaced r 0) (leb 3 r.kind) known).0 in
    eqb-true r.kind 0 (not-false (eqb r.kind 0) (neither (not (eqb r.kind 0)) false placed).0)
