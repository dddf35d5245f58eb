-- The numbers of document 01, and its order: a number is returned if and only if its fault is present and no earlier one is.
use Rattle.std.specs.Prelude.{◌≡◌, ◌<◌, Bool, true, false, ℕ, zero, suc, Result, Ok, Err}
use Rattle.faults.specs.declared.Fault.{Fault}
use Rattle.faults.specs.declared.Fault.TheVariants.{TableLength, Kind, UnusedField, Reference, StructureLength, Record, World, EntryNumber, Space, TextGrammar, TextLimit, Draft}

-- document 01's number of each fault, and document 02's from 11 on (P1, P9); 5 stays unused (P4)
abbrev pub number_of : Fault → ℕ
number_of TableLength = 1
number_of Kind = 2
number_of UnusedField = 3
number_of Reference = 4
number_of StructureLength = 6
number_of Record = 7
number_of World = 8
number_of EntryNumber = 9
number_of Space = 10
number_of TextGrammar = 11
number_of TextLimit = 12
number_of Draft = 16

-- the number of a yes or no
abbrev pub yes_or_no : Bool → ℕ
yes_or_no true = 1
yes_or_no false = 0

-- the number of what a call answers: that of the answer, or that of the fault that it is refused for
abbrev pub answer_number : {A : Type 0} → (A → ℕ) → Result A Fault → ℕ
answer_number f (Ok x) = f x
answer_number f (Err fault) = number_of fault

-- the number that a call is refused with, and 0, which is no fault's, where it answers
abbrev pub refusal : {A : Type 0} → Result A Fault → ℕ
refusal = answer_number (λ x. 0)

-- what a check answers
abbrev pub Verdict : Type 0
Verdict = Result Unit Fault

-- no fault was found
abbrev pub accepted : Verdict
accepted = Ok tt

-- the fault where it is present
abbrev pub refuse_if : Bool → Fault → Verdict
refuse_if true f = Err f
refuse_if false f = accepted

-- the first of two verdicts that refuses
abbrev pub and_then : Verdict → Verdict → Verdict
and_then (Ok tt) v = v
and_then (Err f) v = Err f

-- the first that refuses of the verdicts v 0, v 1, .. below a bound
unfoldable pub each : (ℕ → Verdict) → ℕ → Verdict
each v zero = accepted
each v (suc n) = and_then (each v n) (v n)

-- what a call of a check with a number below n finds, as `found` tells, is the verdict of that number
abbrev pub Finds : (ℕ → Verdict → Type 0) → ℕ → (ℕ → Verdict) → Type 0
Finds found n v = (i : ℕ) (r : Verdict) → i < n → found i r → r ≡ v i

-- the verdict of a row of n such checks
abbrev pub FirstOf : (ℕ → Verdict → Type 0) → ℕ → Verdict → Type 0
FirstOf found n r = (v : ℕ → Verdict) → Finds found n v → r ≡ each v n
