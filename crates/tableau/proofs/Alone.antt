-- The needs and limits of one relation, taken alone, have a solution exactly where some world is as they want.
-- Why: a world that is as wanted has a solution for every relation; and no rule adds to counting entries, so a solution makes such a world.
-- So the answer for a relation can be remembered under the question: these entries true, those false.
use mathlib.Core.Path.{◌≡◌, refl}
use mathlib.Core.Logic.{◌⊎◌, inl, inr, ⊎_elim}
use mathlib.Core.Bool.{Bool, true, false, ◌||◌, false≢true}
use mathlib.Core.List.{List, [], ◌∷◌}
use Prim.Native.Nat.{ℕ, ◌<◌}
use native.Mathlib.Omega.{arith}
use lib.Dec.{eqb}
use borrow.Author.Tests.{eqb-true, ne_eqb}
use Rattle.sets.specs.Set.{both, nothing}
use Rattle.table.specs.declared.entry.Entry.{Entry}
use Rattle.semantics.specs.Answer.{Answers}
use Rattle.table.specs.Formed.{WellFormed}
use Rattle.tableau.specs.Wants.{wanted, rule, Sat, Settled}
use Rattle.tableau.specs.Counting.{bound_kind, bound, need, limit, speaks, Row, All, Usable, Solution}
use Rattle.sets.proofs.Tests.{both_made, both_parts, one_of}
use Rattle.tableau.proofs.Treated.{least_met, most_met}
use Rattle.tableau.proofs.Bounds.{bound_made, bound_cases, bound_speaks}
use Rattle.tableau.proofs.Solved.{solved}
use Rattle.tableau.proofs.Built.{built}
use Rattle.tableau.proofs.Narrowed.{narrowed}

-- at least or at most
abbrev Counts : ℕ → Type 0
Counts kind = (kind ≡ 6) ⊎ (kind ≡ 7)

bound_counts : (b c : Bool) → Counts (bound_kind b c)
bound_counts true true = inl refl
bound_counts true false = inr refl
bound_counts false true = inr refl
bound_counts false false = inl refl

-- a need or limit is wanted, and counts
module _ (yes no : ℕ → Bool) (e : Entry) (i : ℕ) where
  bound_asked : (c : Bool) → bound yes no e i c ≡ true → (b : Bool) × (wanted yes no b i ≡ true) × Counts e.kind
  bound_asked c bounds = let (b, want, kind) = bound_cases yes no e i c bounds in (b, want, rw kind (bound_counts b c))

  asked : need yes no e i || limit yes no e i ≡ true → (b : Bool) × (wanted yes no b i ≡ true) × Counts e.kind
  asked h = ⊎_elim (bound_asked true) (bound_asked false) (one_of (need yes no e i) _ h)

-- questions that come to the same have the same answers
pub answers : {P Q : Type 0} → (P → Q) → (Q → P) → (a : Bool) → Answers a P → Answers a Q
answers there back true p = there p
answers there back false p = λ q. p (back q)

module _ (entry : ℕ → Entry) (yes no : ℕ → Bool) (r : ℕ) where
  -- is entry i a need or limit of the relation
  abbrev here : ℕ → Bool
  here i = speaks yes no (entry i) i r

  -- the entries of a set that are needs or limits of the relation
  abbrev pub alone : (ℕ → Bool) → ℕ → Bool
  alone p = both p here

  here_parts : (i : ℕ) → here i ≡ true → ((entry i).name ≡ r) × Counts (entry i).kind
  here_parts i h =
      let (name, asks) = both_parts true (eqb (entry i).name r) _ h in
      (eqb-true _ _ name, (asked yes no (entry i) i asks).2)

  no_fact : (i : ℕ) → here i ≡ true → (entry i).kind ≡ 2 → ⊥
  no_fact i h fact = ⊎_elim (λ (k : (entry i).kind ≡ 6). omega arith) (λ (k : (entry i).kind ≡ 7). omega arith) (here_parts i h).1

  alone_parts : (b : Bool) (i : ℕ) → wanted (alone yes) (alone no) b i ≡ true → (wanted yes no b i ≡ true) × (here i ≡ true)
  alone_parts true i = both_parts true (yes i) _
  alone_parts false i = both_parts true (no i) _

  alone_made : (b : Bool) (i : ℕ) → wanted yes no b i ≡ true → here i ≡ true → wanted (alone yes) (alone no) b i ≡ true
  alone_made true i = both_made true
  alone_made false i = both_made true

  -- the sets alone have the needs and limits of the relation
  bound_alone : (c : Bool) (i : ℕ) → here i ≡ true → bound yes no (entry i) i c ≡ true → bound (alone yes) (alone no) (entry i) i c ≡ true
  bound_alone c i h bounds =
      let (b, want, kind) = bound_cases yes no (entry i) i c bounds in
      bound_made (alone yes) (alone no) (entry i) i b c (alone_made b i want h) kind

  -- and no others
  asked_here : (i : ℕ) → need (alone yes) (alone no) (entry i) i || limit (alone yes) (alone no) (entry i) i ≡ true → here i ≡ true
  asked_here i asks = let (b, want, counts) = asked (alone yes) (alone no) (entry i) i asks in (alone_parts b i want).1

  speaks_here : (i : ℕ) → speaks (alone yes) (alone no) (entry i) i r ≡ true → here i ≡ true
  speaks_here i h = asked_here i (both_parts true (eqb (entry i).name r) _ h).1

  -- so the same rows are a solution
  usable_row : {row : Row} → Usable entry (alone yes) (alone no) r row → Usable entry yes no r row
  usable_row u = record {
    within = λ i p. speaks_here i (u.within i p);
    feasible = record {
      structure = u.feasible.structure;
      world = u.feasible.world;
      inside = u.feasible.inside;
      keeps = λ c i p bounds. u.feasible.keeps c i p (bound_alone c i (speaks_here i (u.within i p)) bounds);
    };
  }

  usable_rows : (rows : List Row) → All (Usable entry (alone yes) (alone no) r) rows → All (Usable entry yes no r) rows
  usable_rows [] all = tt
  usable_rows (row ∷ rows) all = (usable_row all.0, usable_rows rows all.1)

  module _ {n : ℕ} (wf : WellFormed entry n) (below : (b : Bool) (i : ℕ) → wanted yes no b i ≡ true → i < n) where
    alone_below : (b : Bool) (i : ℕ) → wanted (alone yes) (alone no) b i ≡ true → i < n
    alone_below b i want = below b i (alone_parts b i want).0

    -- some world is as they want: they have a solution
    pub alone_solution : Sat entry (alone yes) (alone no) → Solution entry yes no r
    alone_solution sat =
        let s : Solution entry (alone yes) (alone no) r = solved wf alone_below sat r in
        record {
          rows = s.rows;
          usable = usable_rows s.rows s.usable;
          met = λ i bounds name. s.met i (bound_alone true i (bound_speaks yes no (entry i) i true bounds name) bounds) name;
          kept = λ i bounds name. s.kept i (bound_alone false i (bound_speaks yes no (entry i) i false bounds name) bounds) name;
        }

    -- and back, if none of them is "not at least 0", which is true nowhere
    module _ (positive : (i : ℕ) → no i ≡ true → (entry i).kind ≡ 6 → (entry i).grade ≡ 0 → ⊥) where
      counting_met : (b : Bool) (i : ℕ) → wanted yes no b i ≡ true → Counts (entry i).kind
          → rule (alone yes) (alone no) nothing b (entry i) i ≡ true
      counting_met true i want (inl k) = least_met (alone yes) (alone no) nothing (entry i) i true k refl
      counting_met false i want (inl k) = least_met (alone yes) (alone no) nothing (entry i) i false k (rw (ne_eqb (entry i).grade 0 (positive i want k)))
      counting_met b i want (inr k) = most_met (alone yes) (alone no) nothing (entry i) i b k

      settled : Settled entry n (alone yes) (alone no) nothing
      settled = record {
        below = alone_below;
        treated = λ b i want. let (want', h) = alone_parts b i want in counting_met b i want' (here_parts i h).1;
        splits = λ i pending. absurd (false≢true pending);
        facts = λ i want j want' k. absurd (no_fact i (alone_parts true i want).1 k);
      }

      pub alone_sat : Solution entry yes no r → Sat entry (alone yes) (alone no)
      alone_sat s =
          built wf settled (λ i. refl)
          (λ i asks. rw (here_parts i (asked_here i asks)).0 (narrowed entry yes no (alone yes) (alone no) r (λ b j want. (alone_parts b j want).0) s))

      -- so an answer to the one is an answer to the other
      pub alone_told : (a : Bool) → Answers a (Solution entry yes no r) → Answers a (Sat entry (alone yes) (alone no))
      alone_told = answers alone_sat alone_solution

      pub alone_recalled : (a : Bool) → Answers a (Sat entry (alone yes) (alone no)) → Answers a (Solution entry yes no r)
      alone_recalled = answers alone_solution alone_sat
