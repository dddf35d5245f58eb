-- What is wanted grows entry by entry: how settled sets stay settled, and worlds as wanted.
-- Why: the rules that were met stay met, and the one of the new entry is met by what is there.
use mathlib.Core.Path.{◌≡◌, refl, sym}
use mathlib.Core.Logic.{◌⊎◌, inr, ⊎_elim, ⊎_map, by_cases}
use mathlib.Core.Bool.{Bool, true, false, cond, not, ◌||◌, or-true}
use Prim.Native.Nat.{ℕ, ◌<◌}
use native.Mathlib.Decide.{ℕ_discrete}
use lib.Dec.{eqb}
use borrow.Author.Tests.{eqb-true, eq-eqb, ne_eqb, not-true}
use Rattle.semantics.specs.Structure.{Structure}
use Rattle.table.specs.declared.entry.Entry.{Entry}
use Rattle.sets.specs.Set.{removed}
use Rattle.tableau.specs.Wants.{added_if, truth_at, wanted, rule, NoSameFact, Meets, Settled, Grows}
use Rattle.sets.proofs.Tests.{both_parts, one_of}
use Rattle.tableau.proofs.Treated.{rule_grows, rule_split}

-- what is in a set with one more
module _ (p : ℕ → Bool) (i j : ℕ) where
  added_cases : (o : Bool) → added_if o p i j ≡ true → ((o ≡ true) × (i ≡ j)) ⊎ (p j ≡ true)
  added_cases true h = ⊎_map (λ q. (refl, sym (eqb-true j i q))) (λ q. q) (one_of (eqb j i) (p j) h)
  added_cases false h = inr h

  added_keeps : (o : Bool) → p j ≡ true → added_if o p i j ≡ true
  added_keeps true h = rw (h, or-true)
  added_keeps false h = h

-- what is wanted where entry i is wanted b besides
module _ (yes no : ℕ → Bool) (i : ℕ) where
  put_cases : (b c : Bool) (j : ℕ) → wanted (added_if b yes i) (added_if (not b) no i) c j ≡ true → ((b ≡ c) × (i ≡ j)) ⊎ (wanted yes no c j ≡ true)
  put_cases b true j h = added_cases yes i j b h
  put_cases b false j h = ⊎_map (λ q. (not-true b q.0, q.1)) (λ q. q) (added_cases no i j (not b) h)

  pub put_grows : (b : Bool) → Grows yes no (added_if b yes i) (added_if (not b) no i)
  put_grows b true j = added_keeps yes i j b
  put_grows b false j = added_keeps no i j (not b)

  pub put_self : (b : Bool) → wanted (added_if b yes i) (added_if (not b) no i) b i ≡ true
  put_self true = rw (eq-eqb i i refl)
  put_self false = rw (eq-eqb i i refl)

module _ {entry : ℕ → Entry} {s : Structure} {w : ℕ} {yes no : ℕ → Bool} where
  -- a world that is as wanted stays so if less is wanted
  pub meets_fewer : {yes' no' : ℕ → Bool} → Grows yes no yes' no' → Meets entry s w yes' no' → Meets entry s w yes no
  meets_fewer grows meets = record { as_wanted = λ b i h. meets.as_wanted b i (grows b i h) }

  pub put_meets : (b : Bool) (i : ℕ) → truth_at entry s w i ≡ b → Meets entry s w yes no → Meets entry s w (added_if b yes i) (added_if (not b) no i)
  put_meets b i t meets = record {
    as_wanted = λ c j h.
        ⊎_elim (λ (q : (b ≡ c) × (i ≡ j)). rw (← q.0, ← q.1) t) (meets.as_wanted c j) (put_cases yes no i b c j h);
  }

module _ {entry : ℕ → Entry} {n : ℕ} {yes no pending : ℕ → Bool} (settled : Settled entry n yes no pending) where
  put_facts : (b : Bool) (i : ℕ) → NoSameFact entry (wanted yes no (not b)) i
      → (j : ℕ) → added_if b yes i j ≡ true → NoSameFact entry (added_if (not b) no i) j
  put_facts true i new j p k q kj kk e =
      ⊎_elim (λ (at : (true ≡ true) × (i ≡ j)). new k q (cc) kk (cc)) (λ (old : yes j ≡ true). settled.facts j old k q kj kk e) (added_cases yes i j true p)
  put_facts false i new j p k q kj kk e =
      ⊎_elim (λ (at : (true ≡ true) × (i ≡ k)). new j p (cc) kj (cc)) (λ (old : no k ≡ true). settled.facts j p k old kj kk e) (added_cases no i k true q)

  -- Entry i is wanted b besides, and pending if o is true, once what its rule asks for is there.
  pub put_settled : (b o : Bool) (i : ℕ) → i < n → rule yes no (added_if o pending i) b (entry i) i ≡ true → (o ≡ true → (entry i).kind ≡ cond b 5 4)
      → NoSameFact entry (wanted yes no (not b)) i → Settled entry n (added_if b yes i) (added_if (not b) no i) (added_if o pending i)
  put_settled b o i inside met splits new =
      let pending' = added_if o pending i in
      record {
        below = λ c j h. ⊎_elim (λ (at : (b ≡ c) × (i ≡ j)). rw (← at.1) inside) (settled.below c j) (put_cases yes no i b c j h);
        treated = λ c j h. ⊎_elim
            (λ (at : (b ≡ c) × (i ≡ j)). rw (← at.0, ← at.1) (rule_grows (put_grows yes no i b) pending' pending' (entry i) i (λ p. p) b met))
            (λ (old : wanted yes no c j ≡ true).
            rule_grows (put_grows yes no i b) pending pending' (entry j) j (added_keeps pending i j o) c (settled.treated c j old))
            (put_cases yes no i b c j h);
        splits = λ j h. ⊎_elim
            (λ (at : (o ≡ true) × (i ≡ j)). rw (← at.1) (b, put_self yes no i b, splits at.0))
            (λ (old : pending j ≡ true). let (c, want, k) = settled.splits j old in (c, put_grows yes no i b c j want, k))
            (added_cases pending i j o h);
        facts = put_facts b i new;
      }

  -- a disjunction is no longer pending once one of its parts is as wanted
  pub split_settled : (b : Bool) (i : ℕ) → (entry i).kind ≡ cond b 5 4 → wanted yes no b (entry i).first || wanted yes no b (entry i).second ≡ true
      → Settled entry n yes no (removed pending i)
  split_settled b i k part = record {
    below = settled.below;
    treated = λ c j h. by_cases (ℕ_discrete i j)
        (λ (e : i ≡ j). rule_split yes no pending (removed pending i) (entry j) j b c (rw (← e) k) (rw (← e) part) (settled.treated c j h))
        (λ (other : i ≡ j → ⊥).
        rule_grows (λ d m p. p) pending (removed pending i) (entry j) j (λ p. rw (ne_eqb j i (λ e. other (sym e)), p)) c (settled.treated c j h));
    splits = λ j h. settled.splits j (both_parts true (not (eqb j i)) (pending j) h).1;
    facts = settled.facts;
  }
