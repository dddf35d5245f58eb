-- Which tables are accepted, and the number that any other is refused with: document 01, faults 1 to 4 in its order.
use Rattle.std.specs.Prelude.{Bool, true, false, not, ◌&&◌, ◌||◌, List, [], ◌∷◌, ℕ, ◌%◌, eqb, leb, ltb, length, get_or}
use Rattle.faults.specs.declared.Fault.TheVariants.{TableLength, Kind, UnusedField, Reference}
use Rattle.faults.specs.Verdict.{Verdict, refuse_if, and_then, each}
use Rattle.table.specs.declared.entry.Entry.{Entry}
use Rattle.table.specs.Entry.{entry_in, size}

-- which fields a kind uses
pub record Uses : Type 0 where
  pub name : Bool
  pub first : Bool
  pub second : Bool
  pub grade : Bool

abbrev row : Bool → Bool → Bool → Bool → Uses
row n f s g = record { name = n; first = f; second = s; grade = g }

-- document 01's table of kinds, its column "fields used", a row a kind: name, first, second, grade
unfoldable pub uses_of : ℕ → Uses
uses_of kind =
    get_or
    (row false false false false
    ∷ row false false false false
    ∷ row true false false false
    ∷ row false true false false
    ∷ row false true true false
    ∷ row false true true false
    ∷ row true true false true
    ∷ row true true false true
    ∷ [])
    kind
    (row false false false false)

-- a field that is not 0 though its kind does not use it
abbrev pub stray : Bool → ℕ → Bool
stray used x = not used && not (eqb x 0)

abbrev pub has_stray : Entry → Bool
has_stray e =
    stray (uses_of e.kind).name e.name
    || stray (uses_of e.kind).first e.first
    || stray (uses_of e.kind).second e.second
    || stray (uses_of e.kind).grade e.grade

-- a used reference that is not smaller than the entry's own number i
abbrev pub refers_upward : Entry → ℕ → Bool
refers_upward e i = ((uses_of e.kind).first && leb i e.first) || ((uses_of e.kind).second && leb i e.second)

-- 3, then 4
abbrev pub fields_verdict : Entry → ℕ → Verdict
fields_verdict e i = and_then (refuse_if (has_stray e) UnusedField) (refuse_if (refers_upward e i) Reference)

-- 2, then 3, then 4
abbrev pub entry_verdict : Entry → ℕ → Verdict
entry_verdict e i = and_then (refuse_if (leb 8 e.kind) Kind) (fields_verdict e i)

-- entry by entry
abbrev pub entries_verdict : (ℕ → Entry) → ℕ → Verdict
entries_verdict entry n = each (λ i. entry_verdict (entry i) i) n

-- 1
abbrev pub length_faulty : ℕ → Bool
length_faulty n = eqb n 0 || ltb 256 n || not (eqb (n % 4) 0)

-- 1; then entry by entry 2, 3, 4
unfoldable pub table_verdict : List ℕ → Verdict
table_verdict bytes = and_then (refuse_if (length_faulty (length bytes)) TableLength) (entries_verdict (entry_in bytes) (size bytes))
