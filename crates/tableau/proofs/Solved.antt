-- Where a world is as wanted, there is a solution for every relation (known as completeness: the answer no is given only where there is no world).
-- Why: each world of its structure makes a row, of one copy if a link leads there and of none otherwise, and with the promises that it happens
-- to keep. Then those that promise a need, and those that do not promise a limit, are just those where its part is true.
use mathlib.Core.Path.{◌≡◌, refl, sym, ap, ◌∙◌}
use mathlib.Core.Bool.{Bool, true, false, cond, not, ◌&&◌, ◌||◌, and-true, and-false, not-not, not-eq-not}
use mathlib.Core.List.{List, [], ◌∷◌, map}
use Prim.Native.Nat.{ℕ, ◌<◌}
use native.Mathlib.Omega.{arith}
use lib.Dec.{eqb}
use borrow.Author.Tests.{eqb-true, eq-eqb}
use Rattle.semantics.specs.Formula.{Formula}
use Rattle.semantics.specs.Count.{bit, gain}
use Rattle.semantics.specs.Structure.{Structure, successors}
use Rattle.semantics.specs.Truth.{truth}
use Rattle.semantics.proofs.Root.{Item, tally}
use Rattle.semantics.proofs.Successors.{items_of, items_of_tally}
use Rattle.table.specs.Formed.{WellFormed}
use Rattle.table.specs.declared.entry.Entry.{Entry}
use Rattle.tableau.specs.Wants.{wanted, Meets, Sat}
use Rattle.tableau.specs.Counting.{bound_kind, bound, need, limit, part_of, Row, total, All, Usable, Solution}
use Rattle.sets.proofs.Tests.{both_parts, and_grows}
use Rattle.tableau.proofs.Bounds.{bound_cases, Fits, fits}

bound_kind_apart : (b : Bool) → bound_kind b true ≡ bound_kind b false → ⊥
bound_kind_apart true e = omega arith
bound_kind_apart false e = omega arith

-- a limit is no need, where a world is as wanted: it is wanted one way only
module _ {entry : ℕ → Entry} {s : Structure} {w : ℕ} {yes no : ℕ → Bool} (meets : Meets entry s w yes no) (i : ℕ) where
  limit_no_need : limit yes no (entry i) i ≡ true → need yes no (entry i) i ≡ false
  limit_no_need l = (not-eq-not {b = false}).0 λ n.
      let (b, want, k) = bound_cases yes no (entry i) i true n in
      let (c, want', k') = bound_cases yes no (entry i) i false l in
      let same : c ≡ b = sym (meets.as_wanted c i want') ∙ meets.as_wanted b i want in
      bound_kind_apart b (sym k ∙ k' ∙ ap (λ (d : Bool). bound_kind d false) same)

gain_bit : (a b : Bool) → gain b (bit a) ≡ bit (a && b)
gain_bit a true = rw and-true
gain_bit a false = rw and-false

cond_either : (x y z t : Bool) → cond x t (y && z) ≡ true → x || y ≡ true
cond_either true y z t h = refl
cond_either false y z t h = (both_parts true y z h).0

module _ (entry : ℕ → Entry) (yes no : ℕ → Bool) (r : ℕ) where
  -- does the item's world keep the promise of entry i
  promised : Item → ℕ → Bool
  promised item i =
      let part : Bool = truth item.structure (part_of entry i) item.world in
      eqb (entry i).name r && cond (need yes no (entry i) i) part (limit yes no (entry i) i && not part)

  row_of : Item → Row
  row_of item = record { promises = promised item; copies = bit (item.reached r) }

  total_tally : (p : Row → Bool) (φ : Formula) → ((item : Item) → p (row_of item) ≡ truth item.structure φ item.world)
      → (items : List Item) → total p (map row_of items) ≡ tally r φ items
  unfolding total tally row_of
  total_tally p φ same [] = refl
  total_tally p φ same (item ∷ items) = rw (same, gain_bit, total_tally p φ same items)

  module _ (no_need : (i : ℕ) → limit yes no (entry i) i ≡ true → need yes no (entry i) i ≡ false) where
    need_promised : (i : ℕ) → need yes no (entry i) i ≡ true → (entry i).name ≡ r
        → (item : Item) → promised item i ≡ truth item.structure (part_of entry i) item.world
    unfolding promised
    need_promised i d e item = rw (eq-eqb (entry i).name r e, d)

    limit_promised : (i : ℕ) → limit yes no (entry i) i ≡ true → (entry i).name ≡ r
        → (item : Item) → not (promised item i) ≡ truth item.structure (part_of entry i) item.world
    unfolding promised
    limit_promised i d e item = rw (eq-eqb (entry i).name r e, no_need i d, d, not-not)

    promised_kept : (item : Item) (c : Bool) (i : ℕ) → promised item i ≡ true → (entry i).name ≡ r → bound yes no (entry i) i c ≡ true
        → truth item.structure (part_of entry i) item.world ≡ c
    promised_kept item true i p e d = sym (need_promised i d e item) ∙ p
    promised_kept item false i p e d = sym (limit_promised i d e item) ∙ ap not p

    usable : (item : Item) → Usable entry yes no r (row_of item)
    unfolding row_of promised
    usable item = record {
      within = λ i. and_grows (eqb (entry i).name r) _ (λ q. q) (cond_either (need yes no (entry i) i) _ _ _);
      feasible = record {
        structure = item.structure;
        world = item.world;
        inside = item.inside;
        keeps = λ c i p. promised_kept item c i p (eqb-true (entry i).name r (both_parts true (eqb (entry i).name r) _ p).0);
      };
    }

    all_usable : (items : List Item) → All (Usable entry yes no r) (map row_of items)
    all_usable [] = tt
    all_usable (item ∷ items) = (usable item, all_usable items)

module _ {entry : ℕ → Entry} {n : ℕ} (wf : WellFormed entry n) {yes no : ℕ → Bool} (below : (b : Bool) (i : ℕ) → wanted yes no b i ≡ true → i < n)
    (sat : Sat entry yes no) (r : ℕ) where
  -- the successors by r of the world that is as wanted, where the part of entry i is true
  abbrev reached : ℕ → ℕ
  reached i = successors sat.structure r sat.world (truth sat.structure (part_of entry i))

  reached_fits : (c : Bool) (i : ℕ) → bound yes no (entry i) i c ≡ true → (entry i).name ≡ r → Fits c (entry i) (reached i)
  reached_fits c i d e =
      let (b, want, k) = bound_cases yes no (entry i) i c d in
      rw (← e) (fits wf sat.structure sat.world (below b i want) b c k (sat.meets.as_wanted b i want))

  rows : List Row
  rows = map (row_of entry yes no r) (items_of sat.structure sat.world)

  total_reached : (p : Row → Bool) (i : ℕ) → ((item : Item) → p (row_of entry yes no r item) ≡ truth item.structure (part_of entry i) item.world)
      → total p rows ≡ reached i
  unfolding rows
  total_reached p i same = total_tally entry yes no r p (part_of entry i) same _ ∙ items_of_tally r (part_of entry i) sat.structure sat.world

  pub solved : Solution entry yes no r
  unfolding rows row_of
  solved =
      let no_need = limit_no_need sat.meets in
      record {
        rows = rows;
        usable = all_usable entry yes no r no_need (items_of sat.structure sat.world);
        met = λ i d e. omega (arith, reached_fits true i d e, total_reached (λ row. row.promises i) i (need_promised entry yes no r no_need i d e));
        kept = λ i d e. omega (arith, reached_fits false i d e, total_reached (λ row. not (row.promises i)) i (limit_promised entry yes no r no_need i d e));
      }
