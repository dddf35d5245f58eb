-- Drawings with no copies read as before: they are refused for the same, and state the same, each link once.
use mathlib.Core.Path.{◌≡◌, refl, ap}
use mathlib.Core.Logic.{by_cases}
use mathlib.Core.Bool.{Bool, true, false, cond, not, ◌&&◌, ◌||◌, or-false}
use mathlib.Core.List.{List}
use Prim.Native.Nat.{ℕ, zero, suc, ◌<◌}
use native.Mathlib.Decide.{ℕ_discrete}
use native.Mathlib.Omega.{arith}
use lib.Dec.{eqb, leb}
use lib.ListN.{length}
use borrow.Author.Tests.{eq-eqb, ne_eqb}
use Rattle.semantics.specs.Structure.{Copies, none, one, number}
use Rattle.semantics.specs.Plain.{once, single}
use Rattle.faults.specs.declared.Fault.TheVariants.{StructureLength}
use Rattle.faults.specs.Verdict.{refuse_if, and_then}
use Rattle.faults.proofs.Each.{each_same}
use Rattle.structure.specs.declared.record.Record.{Record}
use Rattle.structure.specs.Record.{record_in, records, worlds_of}
use Rattle.structure.specs.Read.{some, greatest, states_link, stated_copies, stated, structure_of}
use Rattle.structure.specs.Check.{record_verdict, length_faulty, structure_verdict}
use Rattle.structure.specs.Plain.{NoCopies, plain_record_verdict, plain_verdict, plain_structure}

-- a record of no copies has no more faults than it had
no_fault : (r : Record) → (r.kind ≡ 2 → r.copies ≡ 0) → eqb r.kind 2 && not (eqb r.copies 0) ≡ false
no_fault r h =
    by_cases (ℕ_discrete r.kind 2)
    (λ (e : r.kind ≡ 2). rw (eq-eqb r.kind 2 e, eq-eqb r.copies 0 (h e)))
    (λ (n : ¬ (r.kind ≡ 2)). rw (ne_eqb r.kind 2 n))

same_record : (r : Record) (i worlds : ℕ) → (r.kind ≡ 2 → r.copies ≡ 0) → record_verdict r i worlds ≡ plain_record_verdict r i worlds
same_record r i worlds h = rw (no_fault r h, or-false)

pub verdict_plain : (bytes : List ℕ) → NoCopies bytes → structure_verdict bytes ≡ plain_verdict bytes
unfolding structure_verdict
verdict_plain bytes bare = ap (and_then (refuse_if (length_faulty (length bytes)) StructureLength)) (each_same (records bytes) (λ i l. same_record (record_in bytes i) i (worlds_of (record_in bytes)) (bare i l)))

-- it states its link once, or none
stated_once : (r : Record) → (r.kind ≡ 2 → r.copies ≡ 0) → (relation v w : ℕ) → stated_copies r relation v w ≡ once (states_link r relation v w)
stated_once r h relation v w =
    by_cases (ℕ_discrete r.kind 2)
    (λ (e : r.kind ≡ 2). rw (h e) (taken (states_link r relation v w)))
    (λ (n : ¬ (r.kind ≡ 2)). rw (ne_eqb r.kind 2 n))
  where
    taken : (b : Bool) → cond b one none ≡ once b
    taken true = refl
    taken false = refl

-- the greatest of links of one copy is one
greatest_once : {f : ℕ → Copies} (p : ℕ → Bool) (n : ℕ) → ((i : ℕ) → i < n → f i ≡ once (p i)) → greatest f n ≡ once (some p n)
unfolding greatest some
greatest_once p zero h = refl
greatest_once {f} p (suc n) h = rw (greatest_once {f = f} p n (λ i l. h i (omega arith)), h n (omega arith)) (either (some p n) (p n))
  where
    either : (a b : Bool) → cond (leb (number (once b)) (number (once a))) (once a) (once b) ≡ once (a || b)
    either true true = refl
    either true false = refl
    either false true = refl
    either false false = refl

pub structure_plain : (bytes : List ℕ) → NoCopies bytes → structure_of bytes ≡ single (plain_structure bytes)
unfolding stated single
structure_plain bytes bare =
    λ k. record {
      worlds = worlds_of (record_in bytes);
      holds = λ p w. (plain_structure bytes).holds p w;
      links = λ relation v w. greatest_once (λ i. states_link (record_in bytes i) relation v w) (records bytes) (λ i l. stated_once (record_in bytes i) (bare i l) relation v w) k;
    }
