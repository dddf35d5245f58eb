-- The successors of a world as items, so that a root over them has the world's counts; and how tallies add up.
-- Why: a tally is the sum of its items' bits, and a link of c copies reaches c of the four items of its world.
use mathlib.Core.Path.{◌≡◌, refl}
use mathlib.Core.Bool.{Bool, true, false}
use mathlib.Core.List.{List, [], ◌∷◌, ◌++◌}
use Prim.Native.Nat.{ℕ, zero, suc, ◌+◌, ◌≤◌, ◌<◌}
use native.Mathlib.Nat.{le_refl, le_of_suc-le}
use native.Mathlib.Omega.{arith}
use lib.Dec.{ltb}
use lib.ListN.{replicate}
use Rattle.semantics.specs.Formula.{Formula}
use Rattle.semantics.specs.Count.{bit, count, gain, sum}
use Rattle.semantics.specs.Structure.{number, Structure, successors}
use Rattle.semantics.specs.Truth.{truth}
use Rattle.semantics.proofs.Sum.{gain_zero}
use Rattle.semantics.proofs.Levels.{gain_levels}
use Rattle.semantics.proofs.Root.{Item, counted, tally}

-- the world v, which a relation reaches if its link from w has more than t copies
abbrev item_at : (s : Structure) (w v : ℕ) → v < s.worlds → ℕ → Item
item_at s w v h t = record { reached = λ r. ltb t (number (s.links r w v)); structure = s; world = v; inside = h }

-- four items for each world below n, so that as many are reached as the link from w has copies
items_below : (s : Structure) (w n : ℕ) → n ≤ s.worlds → List Item
items_below s w zero h = []
items_below s w (suc v) h = item_at s w v h 3 ∷ item_at s w v h 2 ∷ item_at s w v h 1 ∷ item_at s w v h 0 ∷ items_below s w v (le_of_suc-le h)

-- the worlds of a structure, as successors of its world w, each as often as its link has copies
pub items_of : Structure → ℕ → List Item
items_of s w = items_below s w s.worlds (le_refl s.worlds)

module _ (r : ℕ) (φ : Formula) where
  items_below_tally : (s : Structure) (w n : ℕ) (h : n ≤ s.worlds) → tally r φ (items_below s w n h) ≡ sum (λ v. gain (truth s φ v) (number (s.links r w v))) n
  unfolding items_below tally sum count
  items_below_tally s w zero h = refl
  items_below_tally s w (suc v) h = omega (arith, items_below_tally s w v (le_of_suc-le h), gain_levels (truth s φ v) (s.links r w v))

  pub items_of_tally : (s : Structure) (w : ℕ) → tally r φ (items_of s w) ≡ successors s r w (truth s φ)
  unfolding items_of
  items_of_tally s w = items_below_tally s w s.worlds (le_refl s.worlds)

  pub tally_append : (xs ys : List Item) → tally r φ (xs ++ ys) ≡ tally r φ xs + tally r φ ys
  unfolding tally
  tally_append [] ys = omega arith
  tally_append (i ∷ xs) ys = omega (arith, tally_append xs ys)

pub gain_suc : (b : Bool) (k : ℕ) → gain b (suc k) ≡ bit b + gain b k
gain_suc true k = omega arith
gain_suc false k = refl

-- k copies of an item count k or nothing
pub tally_replicate : (r : ℕ) (φ : Formula) (k : ℕ) (i : Item) → tally r φ (replicate k i) ≡ gain (counted r φ i) k
unfolding tally
tally_replicate r φ zero i = rw gain_zero
tally_replicate r φ (suc k) i = rw (gain_suc, tally_replicate r φ k i)
