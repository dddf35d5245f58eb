-- The room that an input is read into tells what the sheet says of the whole input.
use Rattle.std.proofs.Common.{◌≡◌, ℕ, ◌<◌, List, IfSome, None, Some, false, inl, inr, length, take, subst, arith}
use Rattle.std.proofs.lemmas.Bool.{cases_lt}
use Rattle.std.proofs.lemmas.Bool.Decides.{nat_tests}
use Rattle.std.proofs.lemmas.List.{length-take-le, take_all}
use Rattle.std.specs.declared.option.Option.{Option}
use Rattle.faults.specs.declared.Fault.{Fault}
use Rattle.std.specs.Prelude.{Result}
use Rattle.sheet.specs.declared.Sheet.{Sheet}
use Rattle.sheet.specs.Sheet.{shaped, SheetIs}

-- 259 bytes are the most
too_long : (input : List ℕ) → 259 < length input → shaped input ≡ false
too_long input long = grind (arith, nat_tests)

front_told : (input : List ℕ) (sheet : Result Sheet Fault) → SheetIs (take 260 input) sheet → SheetIs input sheet
front_told input sheet told =
    elim (cases_lt 260 (length input)) [
      | inl longer ↦
          let front : length (take 260 input) ≡ 260 = length-take-le 260 input (omega arith) in
          rw (too_long input (omega arith)) (rw (too_long (take 260 input) (omega arith)) at told)
      | inr shorter ↦ subst (λ l. SheetIs l sheet) (take_all 260 input shorter) told
    ]

-- what was read is as much of the known input as the room takes
pub read_told : (known : Option (List ℕ)) (room : List ℕ) (n : ℕ) (sheet : Result Sheet Fault) → length room ≡ 260
    → IfSome known (λ input. take n room ≡ take (length room) input) → SheetIs (take n room) sheet → IfSome known (λ input. SheetIs input sheet)
read_told None room n sheet whole front told = tt
read_told (Some input) room n sheet whole front told =
    front_told input sheet (subst (λ k. SheetIs (take k input) sheet) whole (subst (λ l. SheetIs l sheet) front told))
