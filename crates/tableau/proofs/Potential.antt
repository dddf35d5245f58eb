-- The potential falls at every step of the search.
-- Why: what is tried is below t, so it weighs at most a 4098th of what the sets below t weigh; 4096 copies of it and all sets below it weigh less.
-- A copy that is given up weighs as much as all sets below it.
use mathlib.Core.Path.{◌≡◌, ap, ◌∙◌}
use mathlib.Core.List.{List, ◌∷◌}
use Prim.Native.Nat.{ℕ, suc, ◌-◌, ◌*◌, ◌^◌, ◌<◌, ◌≤◌}
use native.Mathlib.Nat.{mul-le-mul_right, one-le-pow, pow-succ', pow-le-pow_right, suc-mul}
use native.Mathlib.Omega.{arith}
use lib.Dec.{lit<}
use Rattle.tableau.specs.Search.{Slot, taken, load, potential}

power_pos : (b : ℕ) → 0 < 4098 ^ b
power_pos b = one-le-pow b 4098 (lit< tt)

power_up : {b t : ℕ} → b < t → 4098 * 4098 ^ b ≤ 4098 ^ t
power_up l = rw pow-succ' at (pow-le-pow_right {n = 4098} (lit< tt) l)

module _ (slots : List Slot) (b t : ℕ) where
  pub potential_skipped : b ≤ t → potential slots b ≤ potential slots t
  unfolding potential
  potential_skipped l = omega (arith, pow-le-pow_right {n = 4098} (lit< tt) l)

  pub potential_tried : b < t → potential slots b < potential slots t
  unfolding potential
  potential_tried l = omega (arith, power_up l, power_pos b)

  module _ (m : ℕ) where
    pub potential_taken : b < t → m ≤ 4096 → potential (taken b m ∷ slots) b < potential slots t
    unfolding potential load
    potential_taken l small = omega (arith, mul-le-mul_right (4098 ^ b) small, power_up l, power_pos b)

    pub potential_dropped : 0 < m → potential slots b < potential (taken b m ∷ slots) t
    unfolding potential load
    potential_dropped pos = omega (arith, mul-le-mul_right (4098 ^ b) pos, power_pos t)

    pub potential_lowered : 0 < m → potential (taken b (m - 1) ∷ slots) b < potential (taken b m ∷ slots) t
    unfolding potential load
    potential_lowered pos =
        let more : m ≡ suc (m - 1) = omega arith in
        omega (arith, ap (λ (k : ℕ). k * 4098 ^ b) more ∙ suc-mul (m - 1) (4098 ^ b), power_pos t)
