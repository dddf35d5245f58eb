-- Two structures side by side: the first's worlds keep their numbers, the second's world w stands at the first's number of worlds plus w.
-- Why truth is kept: no link leaves the first part, so it is a copy; the second part is one where no link crosses over to the first.
use mathlib.Core.Path.{◌≡◌, ap₂, ◌∙◌}
use mathlib.Core.Bool.{Bool, cond}
use Prim.Native.Nat.{ℕ, ◌+◌, ◌-◌, ◌<◌}
use native.Mathlib.Nat.{add-sub_cancel_left, le-add_right}
use native.Mathlib.Omega.{arith}
use lib.Dec.{ltb}
use borrow.Author.Tests.{lt-ltb, le-ltb}
use Rattle.semantics.specs.Formula.{Formula}
use Rattle.semantics.specs.Count.{gain, sum}
use Rattle.semantics.specs.Structure.{Copies, none, number, Structure, successors}
use Rattle.semantics.specs.Truth.{truth}
use Rattle.semantics.proofs.Sum.{sum_same, sum_add, sum_unlinked}
use Rattle.semantics.proofs.Copy.{Copy, copy_truth}

module _ {A : Type 0} where
  -- f below n, and from n on g, which starts at 0 there
  unfoldable pub side : ℕ → (ℕ → A) → (ℕ → A) → ℕ → A
  side n f g w = cond (ltb w n) (f w) (g (w - n))

  pub side_left : {n : ℕ} (f g : ℕ → A) {w : ℕ} → w < n → side n f g w ≡ f w
  unfolding side
  side_left {n} f g {w} h = rw (lt-ltb w n h)

  pub side_right : (n : ℕ) (f g : ℕ → A) (w : ℕ) → side n f g (n + w) ≡ g w
  unfolding side
  side_right n f g w = rw (le-ltb (n + w) n (le-add_right n w), add-sub_cancel_left)

-- what is linked on two sides is counted apart
pub sum_side : (n m : ℕ) (f g : ℕ → Copies) (p : ℕ → Bool)
    → sum (λ w. gain (p w) (number (side n f g w))) (n + m) ≡ sum (λ w. gain (p w) (number (f w))) n + sum (λ w. gain (p (n + w)) (number (g w))) m
sum_side n m f g p =
    sum_add (λ w. gain (p w) (number (side n f g w))) n m
    ∙ ap₂ ◌+◌ (sum_same n (λ w h. rw (side_left f g h))) (sum_same m (λ w h. rw side_right))

-- The structures a and b side by side. `cross r v w`: the copies of the link of the relation r from b's world v to a's world w.
abbrev pub join : Structure → Structure → (ℕ → ℕ → ℕ → Copies) → Structure
join a b cross = record {
  worlds = a.worlds + b.worlds;
  holds = λ p. side a.worlds (a.holds p) (b.holds p);
  links = λ r. side a.worlds
      (λ v. side a.worlds (a.links r v) (λ w. none))
      (λ v. side a.worlds (cross r v) (b.links r v));
}

module _ (a b : Structure) (cross : ℕ → ℕ → ℕ → Copies) where
  -- the first part is a copy, whatever crosses over to it
  pub join_left : Copy a (join a b cross) (λ w. w)
  join_left = record {
    facts = λ p w h. side_left (a.holds p) (b.holds p) h;
    counts = λ r w p h. rw side_left
        (omega (arith, sum_side a.worlds b.worlds (a.links r w) (λ v. none) p, sum_unlinked (λ v. p (a.worlds + v)) b.worlds));
  }

  -- a world of the second part counts the cross links that fit, and the links within its part
  pub join_successors : (r w : ℕ) (p : ℕ → Bool)
      → successors (join a b cross) r (a.worlds + w) p ≡ sum (λ v. gain (p v) (number (cross r w v))) a.worlds + successors b r w (λ v. p (a.worlds + v))
  join_successors r w p = rw side_right (sum_side a.worlds b.worlds (cross r w) (b.links r w) p)

-- the disjoint union of two structures
abbrev pub union : Structure → Structure → Structure
union a b = join a b (λ r v w. none)

-- the second part is a copy where nothing crosses over
union_copy : (a b : Structure) → Copy b (union a b) (λ w. a.worlds + w)
union_copy a b = record {
  facts = λ p w h. side_right a.worlds (a.holds p) (b.holds p) w;
  counts = λ r w p h. rw join_successors (omega (arith, sum_unlinked p a.worlds));
}

-- truth in the union is truth in the part
module _ (a b : Structure) (φ : Formula) {w : ℕ} where
  pub union_left : w < a.worlds → truth (union a b) φ w ≡ truth a φ w
  union_left = copy_truth (join_left a b (λ r v w. none)) φ w

  pub union_right : w < b.worlds → truth (union a b) φ (a.worlds + w) ≡ truth b φ w
  union_right = copy_truth (union_copy a b) φ w
