-- A refusal leaves the lent place as it was: no fault has the number 0.
use mathlib.Core.Path.{◌≡◌, refl, sym}
use Prim.Native.Nat.{ℕ, zero, suc}
use Rattle.faults.specs.declared.Fault.{Fault}
use Rattle.faults.specs.Verdict.{number_of}
use Rattle.faults.proofs.Numbers.{no_fault}
use Rattle.exports.specs.Status.{placed}

kept_at : (status : ℕ) (f : Fault) (answer before : ℕ) → status ≡ number_of f → before ≡ placed status answer before
kept_at zero f answer before is = absurd (no_fault f (sym is))
kept_at (suc n) f answer before is = refl

pub kept : {status : ℕ} (f : Fault) (answer before : ℕ) → status ≡ number_of f → before ≡ placed status answer before
kept {status} = kept_at status
