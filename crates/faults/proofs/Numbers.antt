-- Faults are told apart by their numbers, and none has the number 0 or 5.
use mathlib.Core.Path.{◌≡◌, refl, sym, ap, ◌∙◌}
use mathlib.Core.Logic.{◌↔◌}
use mathlib.Core.List.{[], ◌∷◌}
use Prim.Native.Nat.{ℕ}
use native.Mathlib.Omega.{arith}
use lib.ListN.{get_or}
use Rattle.faults.specs.declared.Fault.{Fault}
use Rattle.faults.specs.declared.Fault.TheVariants.{TableLength, Kind, UnusedField, Reference, StructureLength, Record, World, EntryNumber, Space, TextGrammar, TextLimit, Draft}
use Rattle.faults.specs.Verdict.{Verdict, accepted, number_of, refusal}
use Rattle.std.specs.Prelude.{Ok, Err}

-- the fault with a number; Space for a number that no fault has
fault_of : ℕ → Fault
fault_of n =
    get_or (Space ∷ TableLength ∷ Kind ∷ UnusedField ∷ Reference ∷ Space ∷ StructureLength ∷ Record ∷ World ∷ EntryNumber ∷ Space ∷ TextGrammar ∷ TextLimit ∷ Space ∷ Space ∷ Space ∷ Draft ∷ []) n Space

fault_of_number : (f : Fault) → fault_of (number_of f) ≡ f
unfolding fault_of
fault_of_number TableLength = refl
fault_of_number Kind = refl
fault_of_number UnusedField = refl
fault_of_number Reference = refl
fault_of_number StructureLength = refl
fault_of_number Record = refl
fault_of_number World = refl
fault_of_number EntryNumber = refl
fault_of_number Space = refl
fault_of_number TextGrammar = refl
fault_of_number TextLimit = refl
fault_of_number Draft = refl

same_fault : (f g : Fault) → number_of f ≡ number_of g → f ≡ g
same_fault f g e = sym (fault_of_number f) ∙ ap fault_of e ∙ fault_of_number g

-- a number that its own fault does not have is no fault's
unused : (n : ℕ) → (number_of (fault_of n) ≡ n → ⊥) → (f : Fault) → number_of f ≡ n → ⊥
unused n other f e = other (ap (λ (m : ℕ). number_of (fault_of m)) (sym e) ∙ ap number_of (fault_of_number f) ∙ e)

pub no_fault : (f : Fault) → number_of f ≡ 0 → ⊥
unfolding fault_of
no_fault = unused 0 (λ e. absurd (omega (arith, e)))

pub accepted_refused : {f : Fault} → accepted ≡ Err f → ⊥
accepted_refused {f} e = no_fault f (sym (ap refusal e))

-- the number of a verdict is a fault's exactly when it refuses for that fault, and 0 exactly when it accepts
pub refused_number : (v : Verdict) (f : Fault) → (refusal v ≡ number_of f) ↔ (v ≡ Err f)
refused_number (Ok tt) f = (λ e. absurd (no_fault f (sym e)), λ e. absurd (accepted_refused e))
refused_number (Err g) f = (λ e. ap Err (same_fault g f e), λ e. ap refusal e)

pub accepted_number : (v : Verdict) → (refusal v ≡ 0) ↔ (v ≡ accepted)
accepted_number (Ok tt) = (λ e. refl, λ e. refl)
accepted_number (Err g) = (λ e. absurd (no_fault g e), λ e. ap refusal e)

-- document 02, P4: the number 5 is left unused
pub never_5 : (v : Verdict) → refusal v ≡ 5 → ⊥
unfolding fault_of
never_5 (Ok tt) e = absurd (omega (arith, e))
never_5 (Err f) e = unused 5 (λ z. absurd (omega (arith, z))) f e
