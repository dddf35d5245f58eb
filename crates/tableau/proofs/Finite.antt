-- Finite search: is there a number below a bound that passes a test; and a bound above finitely many numbers.
use mathlib.Core.Path.{◌≡◌}
use mathlib.Core.Logic.{⊎_elim}
use mathlib.Core.Bool.{Bool, true, false, ◌||◌, or-true, false≢true}
use Prim.Native.Nat.{ℕ, zero, suc, ◌+◌, ◌<◌}
use native.Mathlib.Nat.{eq-or-lt_of_le, le_of_suc-le-suc, not-suc-le-zero, le_step, lt-suc_self}
use native.Mathlib.Omega.{arith}
use Rattle.sets.proofs.Tests.{one_of}

pub any : (ℕ → Bool) → ℕ → Bool
any p zero = false
any p (suc n) = p n || any p n

pub any_found : (p : ℕ → Bool) (n : ℕ) → any p n ≡ true → (i : ℕ) × (i < n) × (p i ≡ true)
unfolding any
any_found p zero h = absurd (false≢true h)
any_found p (suc n) h =
    ⊎_elim (λ (q : p n ≡ true). (n, lt-suc_self n, q))
    (λ (q : any p n ≡ true). let found = any_found p n q in (found.0, le_step found.1, found.2))
    (one_of (p n) (any p n) h)

pub found_any : (p : ℕ → Bool) {i : ℕ} (n : ℕ) → i < n → p i ≡ true → any p n ≡ true
unfolding any
found_any p zero h q = absurd (not-suc-le-zero h)
found_any p {i} (suc n) h q =
    ⊎_elim (λ (e : i ≡ n). rw (← e, q)) (λ (l : i < n). rw (found_any p n l q, or-true)) (eq-or-lt_of_le (le_of_suc-le-suc h))

-- a number above all of f 0, f 1, .. below n
pub above : (f : ℕ → ℕ) (n : ℕ) → (m : ℕ) × ((i : ℕ) → i < n → f i < m)
above f zero = (0, λ i h. absurd (not-suc-le-zero h))
above f (suc n) =
    let rest = above f n in
    (rest.0 + suc (f n), λ i h. ⊎_elim (λ (e : i ≡ n). rw e (omega arith)) (λ (l : i < n). omega (arith, rest.1 i l)) (eq-or-lt_of_le (le_of_suc-le-suc h)))
