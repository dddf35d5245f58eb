-- A list that is filled from the front: what was stored stays, and what is behind is as it was.
use mathlib.Core.Path.{◌≡◌, ◌∙◌}
use mathlib.Core.Logic.{⊎_elim}
use mathlib.Core.List.{List}
use Prim.Native.Nat.{ℕ, suc, ◌<◌, ◌≤◌}
use native.Mathlib.Nat.{eq-or-lt_of_le, le_of_suc-le-suc}
use native.Mathlib.Omega.{arith}
use lib.ListN.{length, get_or, set}
use lib.Seq.{get_or-set_same, get_or-set_other}

-- f below n, g from n on; then n is filled too
module _ (f g : ℕ → ℕ) (n : ℕ) (l : List ℕ) (below : (i : ℕ) → i < n → get_or l i 0 ≡ f i) (behind : (i : ℕ) → n ≤ i → get_or l i 0 ≡ g i) where
  pub fill_below : n < length l → (i : ℕ) → i < suc n → get_or (set l n (f n)) i 0 ≡ f i
  fill_below room i h =
      ⊎_elim (λ (e : i ≡ n). rw e (get_or-set_same l n (f n) 0 room)) (λ (less : i < n). get_or-set_other l n i (f n) 0 (omega arith) ∙ below i less)
      (eq-or-lt_of_le (le_of_suc-le-suc h))

  pub fill_behind : (i : ℕ) → suc n ≤ i → get_or (set l n (f n)) i 0 ≡ g i
  fill_behind i h = get_or-set_other l n i (f n) 0 (omega arith) ∙ behind i (omega arith)
