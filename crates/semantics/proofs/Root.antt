-- A new root over a list of items: a world with any facts, and with links to the items' worlds as each item asks.
-- Why its counts are the tallies: each item's structure stands there as a copy of its own, so no two items share a world, and truth is kept.
use mathlib.Core.Path.{◌≡◌, refl, ap, ap₂, ◌∙◌}
use mathlib.Core.Bool.{Bool, false, ◌&&◌, and_assoc}
use mathlib.Core.List.{List, [], ◌∷◌}
use Prim.Native.Nat.{ℕ, ◌+◌, ◌<◌}
use native.Mathlib.Nat.{add-zero}
use native.Mathlib.Omega.{arith}
use lib.Dec.{eqb}
use Rattle.semantics.specs.Formula.{Formula}
use Rattle.semantics.specs.Count.{bit, gain, sum}
use Rattle.semantics.specs.Structure.{Copies, none, number, Structure, successors}
use Rattle.semantics.specs.Plain.{once}
use Rattle.semantics.specs.Truth.{truth}
use Rattle.semantics.proofs.Count.{count_one}
use Rattle.semantics.proofs.Sum.{sum_same, sum_bits, sum_unlinked, gain_once}
use Rattle.semantics.proofs.Copy.{copy_truth}
use Rattle.semantics.proofs.Union.{side, side_right, sum_side, join, join_left, join_successors, union, union_left, union_right}

-- a world of a structure, and the relations whose links are to lead to it
pub record Item : Type 0 where
  pub reached : ℕ → Bool
  pub structure : Structure
  pub world : ℕ
  pub inside : world < structure.worlds

-- does the item count, as a successor by the relation r where φ is true
abbrev pub counted : ℕ → Formula → Item → Bool
counted r φ i = i.reached r && truth i.structure φ i.world

-- how many of the items count
unfoldable pub tally : ℕ → Formula → List Item → ℕ
tally r φ [] = 0
tally r φ (i ∷ items) = bit (counted r φ i) + tally r φ items

-- the items' structures side by side
forest : List Item → Structure
forest [] = record { worlds = 0; holds = λ p w. false; links = λ r v w. none }
forest (i ∷ items) = union i.structure (forest items)

-- the root's links into the forest, of one copy each: a link of the relation r leads to the world of each item that r reaches, whatever world v it leaves
root_links : List Item → ℕ → ℕ → ℕ → Copies
root_links [] r v w = none
root_links (i ∷ items) r v w = side i.structure.worlds (λ u. once (eqb u i.world && i.reached r)) (root_links items r v) w

root_links_count : (r v : ℕ) (φ : Formula) (items : List Item)
    → sum (λ w. gain (truth (forest items) φ w) (number (root_links items r v w))) (forest items).worlds ≡ tally r φ items
unfolding forest root_links tally sum
root_links_count r v φ [] = refl
root_links_count r v φ (i ∷ items) =
    sum_side i.structure.worlds (forest items).worlds (λ u. once (eqb u i.world && i.reached r)) (root_links items r v) (truth (forest (i ∷ items)) φ)
    ∙ ap₂ ◌+◌
    (sum_same i.structure.worlds (λ w h. rw (union_left i.structure (forest items) φ h, gain_once, and_assoc))
    ∙ sum_bits _ i.structure.worlds
    ∙ count_one (λ w. i.reached r && truth i.structure φ w) i.inside)
    (sum_same (forest items).worlds (λ w h. rw (union_right i.structure (forest items) φ h)) ∙ root_links_count r v φ items)

-- one world with these facts, and no link
abbrev point : (ℕ → Bool) → Structure
point facts = record { worlds = 1; holds = λ p w. facts p; links = λ r v w. none }

-- the items' structures, and behind them the root with these facts
pub rooted : (ℕ → Bool) → List Item → Structure
rooted facts items = join (forest items) (point facts) (root_links items)

-- the root: world 0 of the second part
pub root : List Item → ℕ
root items = (forest items).worlds + 0

module _ (facts : ℕ → Bool) (items : List Item) where
  pub root_inside : root items < (rooted facts items).worlds
  unfolding rooted root
  root_inside = omega arith

  pub root_fact : (p : ℕ) → (rooted facts items).holds p (root items) ≡ facts p
  unfolding rooted root
  root_fact p = rw side_right

  -- the successors of the root where φ is true are the items that count
  pub root_count : (r : ℕ) (φ : Formula) → successors (rooted facts items) r (root items) (truth (rooted facts items) φ) ≡ tally r φ items
  unfolding rooted root sum
  root_count r φ =
      join_successors (forest items) (point facts) (root_links items) r 0 (truth (rooted facts items) φ)
      ∙ ap₂ ◌+◌
      (sum_same (forest items).worlds (λ w h. ap (λ (b : Bool). gain b (number (root_links items r 0 w))) (copy_truth (join_left (forest items) (point facts) (root_links items)) φ w h))
      ∙ root_links_count r 0 φ items)
      (sum_unlinked (λ v. truth (rooted facts items) φ ((forest items).worlds + v)) 1)
      ∙ add-zero _
