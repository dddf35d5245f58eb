-- Settled sets with nothing pending, and a solution for each relation that a need or limit speaks of, give a world that is as wanted
-- (known as soundness of the answer yes).
-- Why: a root over the solutions' items, with the facts that are wanted true, is as wanted of all that no rule settles, and so by closure of the rest.
use mathlib.Core.Path.{◌≡◌, refl, sym, ◌∙◌}
use mathlib.Core.Bool.{Bool, true, false, ◌&&◌, ◌||◌, not-eq-not, true≢false}
use mathlib.Core.List.{List, []}
use Prim.Native.Nat.{ℕ, ◌<◌}
use lib.Dec.{eqb}
use borrow.Author.Tests.{eqb-true, eq-eqb}
use Rattle.semantics.proofs.Root.{Item, rooted, root, root_inside, root_fact, root_count}
use Rattle.table.specs.declared.entry.Entry.{Entry}
use Rattle.table.specs.Formed.{WellFormed}
use Rattle.tableau.specs.Wants.{truth_at, wanted, Sat, Settled}
use Rattle.tableau.specs.Counting.{bound_kind, bound, need, limit, speaks, Solution}
use Rattle.sets.proofs.Tests.{both_parts}
use Rattle.tableau.proofs.Rules.{truth_of_kind}
use Rattle.tableau.proofs.Closure.{Elementary, is_fact, is_least, is_most, is_pending, closure}
use Rattle.tableau.proofs.Bounds.{bound_made, bound_cases, bound_speaks, fits_truth}
use Rattle.tableau.proofs.Finite.{any, any_found, found_any, above}
use Rattle.tableau.proofs.Items.{items_below, items_fit}

-- with a solution for each relation that a need or limit speaks of there is one for every relation: no rows for any other
module _ {entry : ℕ → Entry} {n : ℕ} (yes no : ℕ → Bool) (below : (b : Bool) (i : ℕ) → wanted yes no b i ≡ true → i < n)
    (solution : (i : ℕ) → need yes no (entry i) i || limit yes no (entry i) i ≡ true → Solution entry yes no (entry i).name) (r : ℕ) where
  bound_found : (c : Bool) (i : ℕ) → bound yes no (entry i) i c ≡ true → (entry i).name ≡ r → any (λ j. speaks yes no (entry j) j r) n ≡ true
  bound_found c i d e =
      let (b, want, k) = bound_cases yes no (entry i) i c d in
      found_any (λ j. speaks yes no (entry j) j r) n (below b i want) (bound_speaks yes no (entry i) i c d e)

  solution_if : (found : Bool) → any (λ j. speaks yes no (entry j) j r) n ≡ found → Solution entry yes no r
  solution_if true q =
      let (i, inside, h) = any_found (λ j. speaks yes no (entry j) j r) n q in
      let (e, d) = both_parts true (eqb (entry i).name r) _ h in
      rw (← eqb-true (entry i).name r e) (solution i d)
  solution_if false q = record {
    rows = [];
    usable = tt;
    met = λ i d e. absurd (true≢false (sym (bound_found true i d e) ∙ q));
    kept = λ i d e. absurd (true≢false (sym (bound_found false i d e) ∙ q));
  }

module _ {entry : ℕ → Entry} {n : ℕ} (wf : WellFormed entry n) {yes no pending : ℕ → Bool} (settled : Settled entry n yes no pending)
    (none : (i : ℕ) → pending i ≡ false)
    (solution : (i : ℕ) → need yes no (entry i) i || limit yes no (entry i) i ≡ true → Solution entry yes no (entry i).name) where
  -- the root's facts: those that are wanted true
  facts : ℕ → Bool
  facts p = any (λ i. yes i && (eqb (entry i).kind 2 && eqb (entry i).name p)) n

  facts_as_wanted : (b : Bool) (i : ℕ) → wanted yes no b i ≡ true → (entry i).kind ≡ 2 → facts (entry i).name ≡ b
  unfolding facts
  facts_as_wanted true i want k = found_any _ n (settled.below true i want) (rw (want, k, eq-eqb (entry i).name (entry i).name refl))
  facts_as_wanted false i want k = (not-eq-not {b = false}).0 λ h.
      let (j, inside, q) = any_found _ n h in
      let (want', q') = both_parts true (yes j) _ q in
      let (k', e) = both_parts true (eqb (entry j).kind 2) _ q' in
      settled.facts j want' i want (eqb-true _ _ k') k (eqb-true _ _ e)

  everywhere : (r : ℕ) → Solution entry yes no r
  everywhere r = solution_if yes no settled.below solution r (any (λ j. speaks yes no (entry j) j r) n) refl

  items : List Item
  items = items_below entry yes no everywhere (above (λ i. (entry i).name) n).0

  bound_as_wanted : (b c : Bool) (i : ℕ) → wanted yes no b i ≡ true → (entry i).kind ≡ bound_kind b c → truth_at entry (rooted facts items) (root items) i ≡ b
  unfolding items
  bound_as_wanted b c i want k =
      let inside = settled.below b i want in
      fits_truth wf (rooted facts items) (root items) inside yes no pending b c k (settled.treated b i want)
      (rw (root_count facts items) (items_fit entry yes no everywhere c i (bound_made yes no (entry i) i b c want k) _ ((above (λ j. (entry j).name) n).1 i inside)))

  elementary_as_wanted : (b : Bool) (i : ℕ) → wanted yes no b i ≡ true → Elementary pending (entry i) i → truth_at entry (rooted facts items) (root items) i ≡ b
  elementary_as_wanted b i want (is_fact k) =
      truth_of_kind wf _ _ (settled.below b i want) 2 k ∙ root_fact facts items (entry i).name ∙ facts_as_wanted b i want k
  elementary_as_wanted true i want (is_least k) = bound_as_wanted true true i want k
  elementary_as_wanted false i want (is_least k) = bound_as_wanted false false i want k
  elementary_as_wanted true i want (is_most k) = bound_as_wanted true false i want k
  elementary_as_wanted false i want (is_most k) = bound_as_wanted false true i want k
  elementary_as_wanted b i want (is_pending p) = absurd (true≢false (sym p ∙ none i))

  pub built : Sat entry yes no
  built = record {
    structure = rooted facts items;
    world = root items;
    inside = root_inside facts items;
    meets = closure wf settled (rooted facts items) (root items) elementary_as_wanted;
  }
