-- The two cases of a split. Why they are all there is: an or that is true has its first part true, or false and the second true; and so
-- for an and that is false. Why the split ends: what comes in is below the entry that is split.
use mathlib.Core.Path.{◌≡◌, refl, sym, ap, ◌∙◌}
use mathlib.Core.Logic.{◌⊎◌, inl, inr, ⊎_elim}
use mathlib.Core.Bool.{Bool, true, false, cond, not, ◌||◌, or-true, false≢true}
use Prim.Native.Nat.{ℕ, ◌<◌, ◌≤◌}
use native.Mathlib.Nat.{le_trans}
use native.Mathlib.Decide.{dec_lt}
use native.Mathlib.Omega.{arith}
use lib.Dec.{eqb}
use borrow.Author.Tests.{eqb-false, not-true}
use Rattle.std.specs.Prelude.{None}
use Rattle.semantics.specs.Structure.{Structure}
use Rattle.sets.specs.Set.{member}
use Rattle.sets.specs.Word.{Greatest}
use Rattle.table.specs.declared.entry.Entry.{Entry}
use Rattle.table.specs.Check.{uses_of}
use Rattle.table.specs.Formulas.{depth_at, depth_of}
use Rattle.table.proofs.Accepted.{depth_rule}
use Rattle.sets.proofs.Tests.{both_parts}
use Rattle.tableau.proofs.Rules.{either_rule}
use Rattle.tableau.proofs.Growth.{meets_fewer, split_settled}
use Rattle.wants.specs.declared.Wants.{Wants}
use Rattle.wants.specs.Outcome.{wanted_w, GrowsW, MeetsW, SettledW, Refuted, Asked, Taken, Lightened}
use Rattle.cases.specs.World.{serving, CaseOf, Ready, Waiting, Branch, BranchIs}

-- the kind of a pending entry says how its parts serve
serving_is : (b : Bool) (k : ℕ) → k ≡ cond b 5 4 → eqb k 5 ≡ b
serving_is true k is = rw is refl
serving_is false k is = rw is refl

split_uses : (b : Bool) (k : ℕ) → k ≡ cond b 5 4 → ((uses_of k).first ≡ true) × ((uses_of k).second ≡ true)
unfolding uses_of
split_uses true k is = rw is (refl, refl)
split_uses false k is = rw is (refl, refl)

split_depth : (c : Bool) (k a b : ℕ) → k ≡ cond c 5 4 → (a ≤ depth_of a b k) × (b ≤ depth_of a b k)
split_depth true k a b is = rw is (omega arith)
split_depth false k a b is = rw is (omega arith)

-- a higher bound
pub ready_wider : {entry : ℕ → Entry} {n : ℕ} {w : Wants} {bound depth : ℕ} → Ready entry n w bound depth → bound ≤ 64 → Ready entry n w 64 depth
ready_wider ready small = record {
  formed = ready.formed;
  few = ready.few;
  settled = ready.settled;
  shallow = ready.shallow;
  pending_below = λ i h. omega (arith, ready.pending_below i h);
}

-- what is known of a pending entry
module _ {entry : ℕ → Entry} {n d bound depth : ℕ} {w : Wants} (at : Waiting entry n w d bound depth) where
  kind_is : (entry d).kind ≡ cond (serving entry d) 5 4
  kind_is = let (b, has, is) = at.ready.settled.splits d at.here in rw (serving_is b (entry d).kind is) is

  wanted_so : wanted_w w (serving entry d) d ≡ true
  wanted_so = let (b, has, is) = at.ready.settled.splits d at.here in rw (serving_is b (entry d).kind is) has

  pub inside : d < n
  inside = at.ready.settled.below (serving entry d) d wanted_so

  -- its parts, which are smaller and no deeper
  pub first_below : (entry d).first < d
  first_below = (at.ready.formed d inside).first (split_uses (serving entry d) _ kind_is).0

  pub second_below : (entry d).second < d
  second_below = (at.ready.formed d inside).second (split_uses (serving entry d) _ kind_is).1

  pub part_depths : (depth_at entry (entry d).first ≤ depth) × (depth_at entry (entry d).second ≤ depth)
  part_depths =
      let parts = split_depth (serving entry d) _ (depth_at entry (entry d).first) (depth_at entry (entry d).second) kind_is in
      omega (arith, depth_rule at.ready.formed d inside, at.ready.shallow (serving entry d) d wanted_so, parts)

  -- one of the cases is so wherever the world is as wanted
  pub cases : (s : Structure) (x : ℕ) → MeetsW entry s x w → CaseOf entry true d s x ⊎ CaseOf entry false d s x
  cases s x m = either_rule at.ready.formed s x inside (serving entry d) kind_is (m.as_wanted (serving entry d) d wanted_so)

  -- v holds a part as it serves, and the entry is pending no more
  module _ (v u : Wants) (light : Lightened d v u) where
    pub light_ready : {below : ℕ} → SettledW entry n v
        → wanted_w v (serving entry d) (entry d).first || wanted_w v (serving entry d) (entry d).second ≡ true
        → ((j : ℕ) → member v.pending j ≡ true → (j ≡ d → ⊥) → j < below)
        → ((c : Bool) (j : ℕ) → wanted_w v c j ≡ true → depth_at entry j ≤ depth) → Ready entry n u below depth
    light_ready settled part pending shallow = record {
      formed = at.ready.formed;
      few = at.ready.few;
      settled = rw (light.0, light.1, light.2) (split_settled settled (serving entry d) d kind_is part);
      pending_below = λ j h.
          let parts = both_parts true (not (eqb j d)) (member v.pending j) (ap (λ (p : ℕ → Bool). p j) (sym light.2) ∙ h) in
          pending j parts.1 (eqb-false j d (not-true (eqb j d) parts.0));
      shallow = rw (light.0, light.1) shallow;
    }

    pub light_sound : GrowsW w v → (s : Structure) (x : ℕ) → MeetsW entry s x u → MeetsW entry s x w
    light_sound grows s x m = meets_fewer grows (rw (← light.0, ← light.1) m)

module _ {entry : ℕ → Entry} {n d depth : ℕ} {w : Wants} (ready : Ready entry n w 64 depth) (top : Greatest (member w.pending) d) where
  pub waiting : Waiting entry n w d 64 depth
  waiting = record { ready = ready; here = top.here }

  -- a part may be wanted besides what is settled
  pub first_asked : Asked entry n (entry d).first w
  first_asked = record { formed = ready.formed; few = ready.few; inside = omega (arith, inside waiting, first_below waiting); settled = ready.settled }

  pub second_asked : {v : Wants} → SettledW entry n v → Asked entry n (entry d).second v
  second_asked settled = record { formed = ready.formed; few = ready.few; inside = omega (arith, inside waiting, second_below waiting); settled = settled }

  -- what a part brings in is below the entry that is split, and no deeper than allowed
  module _ {v₁ v : Wants} {c : Bool} {i : ℕ} (taken : Taken entry n c i v₁ v) (smaller : i < d) (flat : depth_at entry i ≤ depth) where
    pending_next : ((j : ℕ) → member v₁.pending j ≡ true → (member w.pending j ≡ true) ⊎ (j < d))
        → (j : ℕ) → member v.pending j ≡ true → (member w.pending j ≡ true) ⊎ (j < d)
    pending_next before j h = ⊎_elim (before j) (λ (l : j ≤ i). inr (omega arith)) (taken.pending_new j h)

    shallow_next : ((c : Bool) (j : ℕ) → wanted_w v₁ c j ≡ true → depth_at entry j ≤ depth) → (c : Bool) (j : ℕ) → wanted_w v c j ≡ true → depth_at entry j ≤ depth
    shallow_next before c j h = ⊎_elim (before c j) (λ (l : depth_at entry j ≤ depth_at entry i). le_trans l flat) (taken.no_deeper c j h)

  -- v holds what a case wants, and the entry is split
  branched : (case : Bool) (v u : Wants) → SettledW entry n v → GrowsW w v
      → wanted_w v (serving entry d) (entry d).first || wanted_w v (serving entry d) (entry d).second ≡ true
      → ((j : ℕ) → member v.pending j ≡ true → (member w.pending j ≡ true) ⊎ (j < d))
      → ((c : Bool) (j : ℕ) → wanted_w v c j ≡ true → depth_at entry j ≤ depth)
      → ((s : Structure) (x : ℕ) → MeetsW entry s x w → CaseOf entry case d s x → MeetsW entry s x v)
      → Lightened d v u → Branch entry n case d w depth u
  branched case v u settled grows part pending shallow complete light = record {
    ready = light_ready waiting v u light settled part
        (λ j h other. ⊎_elim (λ (old : member w.pending j ≡ true). below_top j old other) (λ (l : j < d). l) (pending j h)) shallow;
    sound = λ sat. record {
      structure = sat.structure;
      world = sat.world;
      inside = sat.inside;
      meets = light_sound waiting v u light grows sat.structure sat.world sat.meets;
    };
    complete = λ s x m case-of. rw (light.0, light.1) (complete s x m case-of);
  }
    where
      below_top : (j : ℕ) → member w.pending j ≡ true → (j ≡ d → ⊥) → j < d
      below_top j h other = elim (dec_lt j d) [ yes l ↦ l | no g ↦ absurd (false≢true (sym (top.above j (omega arith)) ∙ h)) ]

  pub first_branch : {v u : Wants} → Taken entry n (serving entry d) (entry d).first w v → Lightened d v u → Branch entry n true d w depth u
  first_branch {v} {u} taken light =
      branched true v u taken.settled taken.grows (rw taken.has refl) (pending_next taken (first_below waiting) (part_depths waiting).0 (λ j h. inl h))
      (shallow_next taken (first_below waiting) (part_depths waiting).0 ready.shallow) (λ s x m t. taken.meets s x m t) light

  module _ {v₁ : Wants} (one : Taken entry n (not (serving entry d)) (entry d).first w v₁) where
    pub second_branch : {v u : Wants} → Taken entry n (serving entry d) (entry d).second v₁ v → Lightened d v u → Branch entry n false d w depth u
    second_branch {v} {u} taken light =
        branched false v u taken.settled (λ c i h. taken.grows c i (one.grows c i h)) (rw (taken.has, or-true) refl)
        (pending_next taken (second_below waiting) (part_depths waiting).1 (pending_next one (first_below waiting) (part_depths waiting).0 (λ j h. inl h)))
        (shallow_next taken (second_below waiting) (part_depths waiting).1 (shallow_next one (first_below waiting) (part_depths waiting).0 ready.shallow))
        (λ s x m t. taken.meets s x (one.meets s x m t.0) t.1) light

    pub second_clash : Refuted entry (serving entry d) (entry d).second v₁ → BranchIs entry n false d w depth None
    second_clash clash s x m t = clash s x (one.meets s x m t.0) t.1

  -- the second part alone says no more
  pub second_alone : {v u : Wants} → Taken entry n (serving entry d) (entry d).second w v → Lightened d v u → Branch entry n false d w depth u
  second_alone {v} {u} taken light =
      branched false v u taken.settled taken.grows (rw (taken.has, or-true) refl)
      (pending_next taken (second_below waiting) (part_depths waiting).1 (λ j h. inl h))
      (shallow_next taken (second_below waiting) (part_depths waiting).1 ready.shallow) (λ s x m t. taken.meets s x m t.1) light
