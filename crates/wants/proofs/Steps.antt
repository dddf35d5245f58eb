-- From parts to the entry itself: what is wanted grows part by part, each of which follows from the entry, and then by the entry.
-- Why: a part that follows from the entry takes away no world that has the entry as wanted; and once the parts are there, its rule is met.
use mathlib.Core.Path.{◌≡◌, refl, ap}
use mathlib.Core.Logic.{◌⊎◌, inl, inr, ⊎_elim}
use mathlib.Core.Bool.{Bool, true, false, cond, not, false≢true}
use Prim.Native.Nat.{ℕ, ◌<◌, ◌≤◌}
use native.Mathlib.Nat.{le_trans, le_of_eq}
use native.Mathlib.Omega.{arith}
use lib.Dec.{eqb}
use borrow.Author.Tests.{eqb-true, eqb-false, eq-eqb}
use Rattle.semantics.specs.Structure.{Structure}
use Rattle.sets.specs.Set.{member}
use Rattle.table.specs.declared.entry.Entry.{Entry}
use Rattle.table.specs.Check.{uses_of}
use Rattle.table.specs.Formulas.{depth_at, depth_of}
use Rattle.table.proofs.Accepted.{depth_rule}
use Rattle.table.proofs.Cases.{by_kind}
use Rattle.tableau.specs.Wants.{added_if, truth_at, wanted, rule, NoSameFact}
use Rattle.sets.proofs.Tests.{one_of}
use Rattle.tableau.proofs.Rules.{not_rule, both_rule}
use Rattle.tableau.proofs.Treated.{constant_met, fact_met, not_met, both_met, either_met, least_met, most_met}
use Rattle.tableau.proofs.Growth.{put_grows, put_self, put_meets, put_settled}
use Rattle.wants.specs.declared.Wants.{Wants}
use Rattle.wants.specs.declared.Step.{Step}
use Rattle.wants.specs.Outcome.{wanted_w, GrowsW, MeetsW, Refuted, SettledW, Asked, Taken}
use Rattle.wants.specs.Step.{Put, Free, StepIs}

added_cases : (p : ℕ → Bool) (i j : ℕ) (o : Bool) → added_if o p i j ≡ true → (p j ≡ true) ⊎ (j ≡ i)
added_cases p i j true h = ⊎_elim (λ (q : eqb j i ≡ true). inr (eqb-true j i q)) (λ (q : p j ≡ true). inl q) (one_of (eqb j i) (p j) h)
added_cases p i j false h = inl h

put_cases : (p q : ℕ → Bool) (i j : ℕ) (b c : Bool) → wanted (added_if b p i) (added_if (not b) q i) c j ≡ true → (wanted p q c j ≡ true) ⊎ (j ≡ i)
put_cases p q i j b true h = added_cases p i j b h
put_cases p q i j b false h = added_cases q i j (not b) h

module _ (entry : ℕ → Entry) where
  -- entry i is a part of entry e that is c wherever e is b
  pub record Part (b : Bool) (e : ℕ) (c : Bool) (i : ℕ) : Type 0 where
    pub below : i < e
    pub follows : (s : Structure) (v : ℕ) → truth_at entry s v e ≡ b → truth_at entry s v i ≡ c
    pub no_deeper : depth_at entry i ≤ depth_at entry e

  -- w₁ is on the way from w to entry e wanted b: it says nothing that does not follow
  record Reached (n : ℕ) (b : Bool) (e : ℕ) (w w₁ : Wants) : Type 0 where
    settled : SettledW entry n w₁
    grows : GrowsW w w₁
    meets : (s : Structure) (v : ℕ) → MeetsW entry s v w → truth_at entry s v e ≡ b → MeetsW entry s v w₁
    pending_new : (i : ℕ) → member w₁.pending i ≡ true → (member w.pending i ≡ true) ⊎ (i ≤ e)
    no_deeper : (c : Bool) (i : ℕ) → wanted_w w₁ c i ≡ true → (wanted_w w c i ≡ true) ⊎ (depth_at entry i ≤ depth_at entry e)

module _ {entry : ℕ → Entry} {n : ℕ} where
  start : {b : Bool} {e : ℕ} {w : Wants} → SettledW entry n w → Reached entry n b e w w
  start settled = record { settled = settled; grows = λ c i h. h; meets = λ s v m t. m; pending_new = λ i h. inl h; no_deeper = λ c i h. inl h }

  -- the entry was wanted before
  pub known_taken : {b : Bool} {e : ℕ} {w : Wants} → SettledW entry n w → wanted_w w b e ≡ true → Taken entry n b e w w
  known_taken settled has = record { settled = settled; grows = λ c i h. h; has = has; meets = λ s v m t. m; pending_new = λ i h. inl h; no_deeper = λ c i h. inl h }

  module _ {b : Bool} {e : ℕ} {w w₁ : Wants} (reached : Reached entry n b e w w₁) where
    with_part : {c : Bool} {i : ℕ} {w₂ : Wants} → Part entry b e c i → Taken entry n c i w₁ w₂ → Reached entry n b e w w₂
    with_part {c} {i} part taken = record {
      settled = taken.settled;
      grows = λ d j h. taken.grows d j (reached.grows d j h);
      meets = λ s v m t. taken.meets s v (reached.meets s v m t) (part.follows s v t);
      pending_new = λ j h. ⊎_elim (reached.pending_new j) (λ (l : j ≤ i). inr (omega (arith, part.below))) (taken.pending_new j h);
      no_deeper = λ d j h. ⊎_elim (reached.no_deeper d j) (λ (l : depth_at entry j ≤ depth_at entry i). inr (le_trans l part.no_deeper)) (taken.no_deeper d j h);
    }

    part_clash : {c : Bool} {i : ℕ} → Part entry b e c i → Refuted entry c i w₁ → Refuted entry b e w
    part_clash part clash s v m t = clash s v (reached.meets s v m t) (part.follows s v t)

    put_taken : (o : Bool) {w' : Wants} → e < n → rule (member w₁.yes) (member w₁.no) (added_if o (member w₁.pending) e) b (entry e) e ≡ true
        → (o ≡ true → (entry e).kind ≡ cond b 5 4) → NoSameFact entry (wanted_w w₁ (not b)) e → Put b o e w₁ w' → Taken entry n b e w w'
    put_taken o inside met splits new put = record {
      settled = rw (put.yes, put.no, put.pending) (put_settled reached.settled b o e inside met splits new);
      grows = rw (put.yes, put.no) (λ c i h. put_grows _ _ e b c i (reached.grows c i h));
      has = rw (put.yes, put.no) (put_self _ _ e b);
      meets = λ s v m t. rw (put.yes, put.no) (put_meets b e t (reached.meets s v m t));
      pending_new = λ i h. ⊎_elim (reached.pending_new i) (λ (at : i ≡ e). inr (le_of_eq at)) (added_cases _ e i o (rw put.pending at h));
      no_deeper = λ c i h. ⊎_elim (reached.no_deeper c i) (λ (at : i ≡ e). inr (le_of_eq (ap (depth_at entry) at))) (put_cases _ _ e i b c (rw (put.yes, put.no) at h));
    }

  module _ {b : Bool} {e : ℕ} {w w₁ : Wants} (reached : Reached entry n b e w w₁) where
    -- after the last part the entry itself is put in
    last_part : {c : Bool} {i : ℕ} → Part entry b e c i → e < n → ((entry e).kind ≡ 2 → ⊥)
        → ((w₂ : Wants) → GrowsW w₁ w₂ → wanted_w w₂ c i ≡ true → rule (member w₂.yes) (member w₂.no) (member w₂.pending) b (entry e) e ≡ true)
        → {w₂ w' : Wants} → Taken entry n c i w₁ w₂ → Put b false e w₂ w' → Taken entry n b e w w'
    last_part part inside no_fact met {w₂} taken put =
        put_taken (with_part reached part taken) false inside (met w₂ taken.grows taken.has) (λ o. absurd (false≢true o)) (λ j p k. absurd (no_fact k)) put

-- a kind that uses both references
both_kind_uses : (b : Bool) (k : ℕ) → k ≡ cond b 4 5 → ((uses_of k).first ≡ true) × ((uses_of k).second ≡ true)
unfolding uses_of
both_kind_uses true k is = rw is (refl, refl)
both_kind_uses false k is = rw is (refl, refl)

-- a part at the same world is not deeper
not_depth : (k a b : ℕ) → k ≡ 3 → a ≤ depth_of a b k
not_depth k a b is = rw is (omega arith)

both_depth : (c : Bool) (k a b : ℕ) → k ≡ cond c 4 5 → (a ≤ depth_of a b k) × (b ≤ depth_of a b k)
both_depth true k a b is = rw is (omega arith)
both_depth false k a b is = rw is (omega arith)

both_no_fact : (b : Bool) (k : ℕ) → k ≡ cond b 4 5 → k ≡ 2 → ⊥
both_no_fact true k is h = omega arith
both_no_fact false k is h = omega arith

either_kind : (b : Bool) {k : ℕ} → k ≡ cond (not b) 4 5 → k ≡ cond b 5 4
either_kind true k = k
either_kind false k = k

-- a kind that is neither is no and, and no or
neither_kind : (b : Bool) (k : ℕ) → (k ≡ cond b 4 5 → ⊥) → (k ≡ cond (not b) 4 5 → ⊥) → (k ≡ 4 → ⊥) × (k ≡ 5 → ⊥)
neither_kind true k both either = (both, either)
neither_kind false k both either = (either, both)

-- a constant that nothing stands against is as wanted
constant_right : (b : Bool) (k : ℕ) → (k ≡ 0) ⊎ (k ≡ 1) → (k ≡ cond b 1 0 → ⊥) → k ≡ cond b 0 1
constant_right true k (inl h) wrong = h
constant_right true k (inr h) wrong = absurd (wrong h)
constant_right false k (inl h) wrong = absurd (wrong h)
constant_right false k (inr h) wrong = h

-- the rule of a kind without parts at this world is met where nothing stands against the entry
plain_met : {entry : ℕ → Entry} {b : Bool} {e : ℕ} {w : Wants} → Free entry b e w → (entry e).kind < 8
    → ((entry e).kind ≡ 3 → ⊥) → ((entry e).kind ≡ 4 → ⊥) × ((entry e).kind ≡ 5 → ⊥)
    → rule (member w.yes) (member w.no) (member w.pending) b (entry e) e ≡ true
plain_met {entry} {b} {e} {w} free known no-not neither =
    by_kind (λ k. (entry e).kind ≡ k → rule (member w.yes) (member w.no) (member w.pending) b (entry e) e ≡ true)
    (λ k. constant_met _ _ _ (entry e) e b (constant_right b _ (inl k) free.constant))
    (λ k. constant_met _ _ _ (entry e) e b (constant_right b _ (inr k) free.constant))
    (λ k. fact_met _ _ _ (entry e) e b k)
    (λ k. absurd (no-not k))
    (λ k. absurd (neither.0 k))
    (λ k. absurd (neither.1 k))
    (λ k. least_met _ _ _ (entry e) e b k (free.least k))
    (λ k. most_met _ _ _ (entry e) e b k)
    (λ m k. absurd (omega arith))
    (entry e).kind refl

module _ {entry : ℕ → Entry} {n e : ℕ} {w : Wants} (asked : Asked entry n e w) where
  -- a part is asked for as its entry was, and its number is smaller
  pub part_asked : {t i : ℕ} {w₁ : Wants} {b c : Bool} → e ≡ t → Part entry b e c i → SettledW entry n w₁ → (i < t) × Asked entry n i w₁
  part_asked at part settled =
      (rw (← at) part.below, record { formed = asked.formed; few = asked.few; inside = omega (arith, part.below, asked.inside); settled = settled })

  module _ (b : Bool) where
    -- the part of a not, the other way
    pub turned_part : (i : ℕ) → StepIs entry n b e w (Step.Turned i) → Part entry b e (not b) i
    unfolding uses_of
    turned_part i step = record {
      below = rw step.1 ((asked.formed e asked.inside).first (rw step.0));
      follows = λ s v t. rw step.1 (not_rule asked.formed s v asked.inside b step.0 t);
      no_deeper = rw (step.1, depth_rule asked.formed e asked.inside) (not_depth _ _ _ step.0);
    }

    pub turned_clash : (i : ℕ) → StepIs entry n b e w (Step.Turned i) → Refuted entry (not b) i w → Refuted entry b e w
    turned_clash i step = part_clash (start asked.settled) (turned_part i step)

    pub turned_taken : (i : ℕ) → StepIs entry n b e w (Step.Turned i)
        → {w₂ w' : Wants} → Taken entry n (not b) i w w₂ → Put b false e w₂ w' → Taken entry n b e w w'
    turned_taken i step =
        last_part (start asked.settled) (turned_part i step) asked.inside (λ k. omega (arith, step.0))
        (λ w₂ grows has. not_met _ _ _ (entry e) e b step.0 (rw step.1 at has))

    module _ (i j : ℕ) (step : StepIs entry n b e w (Step.Both i j)) where
      pub first_part : Part entry b e b i
      first_part = record {
        below = rw step.1 ((asked.formed e asked.inside).first (both_kind_uses b _ step.0).0);
        follows = λ s v t. rw step.1 (both_rule asked.formed s v asked.inside b step.0 t).0;
        no_deeper = rw (step.1, depth_rule asked.formed e asked.inside) (both_depth b _ _ _ step.0).0;
      }

      pub second_part : Part entry b e b j
      second_part = record {
        below = rw step.2 ((asked.formed e asked.inside).second (both_kind_uses b _ step.0).1);
        follows = λ s v t. rw step.2 (both_rule asked.formed s v asked.inside b step.0 t).1;
        no_deeper = rw (step.2, depth_rule asked.formed e asked.inside) (both_depth b _ _ _ step.0).1;
      }

      pub first_clash : Refuted entry b i w → Refuted entry b e w
      first_clash = part_clash (start asked.settled) first_part

      pub second_clash : {w₁ : Wants} → Taken entry n b i w w₁ → Refuted entry b j w₁ → Refuted entry b e w
      second_clash taken = part_clash (with_part (start asked.settled) first_part taken) second_part

      pub both_taken : {w₁ : Wants} → Taken entry n b i w w₁ → {w₂ w' : Wants} → Taken entry n b j w₁ w₂ → Put b false e w₂ w' → Taken entry n b e w w'
      both_taken taken =
          last_part (with_part (start asked.settled) first_part taken) second_part asked.inside (both_no_fact b _ step.0)
          (λ w₂ grows has. both_met _ _ _ (entry e) e b step.0 (rw step.1 at (grows b i taken.has)) (rw step.2 at has))

    -- No part comes first: the entry is pending where one of its parts is enough, and else its rule is met as it is.
    pub rest_taken : {w' : Wants} → Free entry b e w → ((entry e).kind ≡ 3 → ⊥) → ((entry e).kind ≡ cond b 4 5 → ⊥)
        → (o : Bool) → eqb (entry e).kind (cond (not b) 4 5) ≡ o → Put b o e w w' → Taken entry n b e w w'
    rest_taken free no-not no_both true is =
        let k = either_kind b (eqb-true (entry e).kind _ is) in
        put_taken (start asked.settled) true asked.inside (either_met _ _ _ (entry e) e b k (rw (eq-eqb e e refl))) (λ o. k) free.fact
    rest_taken free no-not no_both false is =
        let met = plain_met free (asked.formed e asked.inside).kind no-not (neither_kind b _ no_both (eqb-false _ _ is)) in
        put_taken (start asked.settled) false asked.inside met (λ o. absurd (false≢true o)) free.fact
