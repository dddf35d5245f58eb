-- Copies by levels: a link of c copies is there at c of the four levels 0 to 3. So a sum of copies is four counts of worlds.
use mathlib.Core.Path.{◌≡◌, refl, ap₂, ◌∙◌}
use mathlib.Core.Bool.{Bool, true, false, ◌&&◌}
use Prim.Native.Nat.{ℕ, zero, suc, ◌+◌}
use lib.Dec.{ltb}
use Rattle.semantics.specs.Count.{bit, count, gain, sum}
use Rattle.semantics.specs.Structure.{Copies, none, one, two, three, four, number, Structure, successors}
use Rattle.semantics.proofs.Sum.{sum_same, sum_none, sum_plus, sum_bits}

-- is a link with so many copies there at the level
abbrev pub at_level : ℕ → Copies → Bool
at_level t c = ltb t (number c)

pub gain_levels : (b : Bool) (c : Copies) → gain b (number c) ≡ count (λ t. at_level t c && b) 4
unfolding count
gain_levels true none = refl
gain_levels true one = refl
gain_levels true two = refl
gain_levels true three = refl
gain_levels true four = refl
gain_levels false none = refl
gain_levels false one = refl
gain_levels false two = refl
gain_levels false three = refl
gain_levels false four = refl

-- counts of rows add up to the counts of columns
exchange : (q : ℕ → ℕ → Bool) (n m : ℕ) → sum (λ w. count (λ t. q t w) m) n ≡ sum (λ t. count (q t) n) m
unfolding sum count
exchange q n zero = sum_none n (λ i l. refl)
exchange q n (suc m) =
    sum_plus (λ w. bit (q m w)) (λ w. count (λ t. q t w) m) n ∙ ap₂ ◌+◌ (sum_bits (q m) n) (exchange q n m)

-- the successors that pass, level by level
pub successors_levels : (s : Structure) (r w : ℕ) (p : ℕ → Bool)
    → successors s r w p ≡ sum (λ t. count (λ v. at_level t (s.links r w v) && p v) s.worlds) 4
successors_levels s r w p =
    sum_same s.worlds (λ v l. gain_levels (p v) (s.links r w v))
    ∙ exchange (λ t v. at_level t (s.links r w v) && p v) s.worlds 4
