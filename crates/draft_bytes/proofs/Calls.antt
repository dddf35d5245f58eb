-- An array from calls of a closure that stays as it is: what each call gives stands at its place.
use mathlib.Core.Path.{◌≡◌, subst, ◌∙◌}
use mathlib.Core.Logic.{⊎_elim}
use mathlib.Core.List.{List}
use Prim.Native.Nat.{ℕ, zero, suc, ◌+◌, ◌<◌, ◌≤◌}
use native.Mathlib.Nat.{eq-or-lt_of_le}
use native.Mathlib.Omega.{arith}
use lib.ListN.{get_or}
use Rattle.std.specs.Array.{IsFromFnResult, IsFromFnResultFrom}
use Rattle.std.specs.Fn.{Called, Mut}
use Rattle.history.specs.Shown.{listed}
use Rattle.history.proofs.Lists.{is_listed}

module _ {F : Type 0} (g : Mut F (ℕ × Unit {0}) ℕ) (f : F) (value : ℕ → ℕ)
    (told : (i y : ℕ) (q : F) → Called g f (i, tt) y q → (y ≡ value i) × (q ≡ f)) where
  called : (ys : List ℕ) (n i : ℕ) → IsFromFnResultFrom g f ys i n → (k : ℕ) → i ≤ k → k < i + n → get_or ys k 0 ≡ value k
  called ys zero i calls k low high = absurd (omega arith)
  called ys (suc n) i (q, y, here, call, later) k low high =
      let one = told i y q call in
      ⊎_elim (λ (e : i ≡ k). rw (← e) (here.1 0 ∙ one.0))
      (λ (l : i < k). called ys n (i + 1) (subst (λ (p : F). IsFromFnResultFrom g p ys (i + 1) n) one.1 later) k (omega arith) (omega arith))
      (eq-or-lt_of_le low)

  pub listed_by_calls : (ys : List ℕ) (n : ℕ) → IsFromFnResult g f ys n → ys ≡ listed value n
  listed_by_calls ys n calls = is_listed ys value n calls.long (λ k h. called ys n 0 calls.each k (omega arith) (omega arith))
