-- When the rule of a wanted entry is met: kind by kind, from its parts; and it stays met as the sets grow.
-- Why: a rule asks for entries that are in the sets, and never that one is missing.
use mathlib.Core.Path.{◌≡◌}
use mathlib.Core.Bool.{Bool, true, false, cond, not, ◌&&◌, ◌||◌, or-true}
use Prim.Native.Nat.{ℕ, zero, suc}
use lib.Dec.{eqb}
use Rattle.table.specs.declared.entry.Entry.{Entry}
use Rattle.tableau.specs.Wants.{wanted, rule, Grows}
use Rattle.sets.proofs.Tests.{and_grows, or_grows}
use Rattle.tableau.proofs.Rules.{of_kind}

module _ (yes no pending : ℕ → Bool) (e : Entry) (i : ℕ) where
  pub constant_met : (b : Bool) → e.kind ≡ cond b 0 1 → rule yes no pending b e i ≡ true
  unfolding rule
  constant_met true k = rw k
  constant_met false k = rw k

  pub fact_met : (b : Bool) → e.kind ≡ 2 → rule yes no pending b e i ≡ true
  unfolding rule
  fact_met b k = rw k

  pub not_met : (b : Bool) → e.kind ≡ 3 → wanted yes no (not b) e.first ≡ true → rule yes no pending b e i ≡ true
  unfolding rule
  not_met b k p = rw k p

  -- an and that is wanted true, an or that is wanted false
  pub both_met : (b : Bool) → e.kind ≡ cond b 4 5 → wanted yes no b e.first ≡ true → wanted yes no b e.second ≡ true → rule yes no pending b e i ≡ true
  unfolding rule
  both_met true k p q = rw (k, p, q)
  both_met false k p q = rw (k, p, q)

  -- an or that is wanted true, an and that is wanted false
  pub either_met : (b : Bool) → e.kind ≡ cond b 5 4 → pending i || (wanted yes no b e.first || wanted yes no b e.second) ≡ true
      → rule yes no pending b e i ≡ true
  unfolding rule
  either_met true k p = rw k p
  either_met false k p = rw k p

  pub least_met : (b : Bool) → e.kind ≡ 6 → b || not (eqb e.grade 0) ≡ true → rule yes no pending b e i ≡ true
  unfolding rule
  least_met b k p = rw k p

  pub most_met : (b : Bool) → e.kind ≡ 7 → rule yes no pending b e i ≡ true
  unfolding rule
  most_met b k = rw k

module _ {yes no yes' no' : ℕ → Bool} (grows : Grows yes no yes' no') (pending pending' : ℕ → Bool) (e : Entry) (i : ℕ)
    (still : pending i ≡ true → pending' i ≡ true) where
  both_grows : (b : Bool) → wanted yes no b e.first && wanted yes no b e.second ≡ true
      → wanted yes' no' b e.first && wanted yes' no' b e.second ≡ true
  both_grows b = and_grows (wanted yes no b e.first) (wanted yes no b e.second) (grows b e.first) (grows b e.second)

  either_grows : (b : Bool) → pending i || (wanted yes no b e.first || wanted yes no b e.second) ≡ true
      → pending' i || (wanted yes' no' b e.first || wanted yes' no' b e.second) ≡ true
  either_grows b = or_grows (pending i) _ still (or_grows (wanted yes no b e.first) _ (grows b e.first) (grows b e.second))

  grows_of_kind : (k : ℕ) (b : Bool) → rule yes no pending b (of_kind k e) i ≡ true → rule yes' no' pending' b (of_kind k e) i ≡ true
  unfolding rule
  grows_of_kind zero b r = r
  grows_of_kind (suc zero) b r = r
  grows_of_kind (suc (suc zero)) b r = r
  grows_of_kind (suc (suc (suc zero))) b r = grows (not b) e.first r
  grows_of_kind (suc (suc (suc (suc zero)))) true r = both_grows true r
  grows_of_kind (suc (suc (suc (suc zero)))) false r = either_grows false r
  grows_of_kind (suc (suc (suc (suc (suc zero))))) true r = either_grows true r
  grows_of_kind (suc (suc (suc (suc (suc zero))))) false r = both_grows false r
  grows_of_kind (suc (suc (suc (suc (suc (suc zero)))))) b r = r
  grows_of_kind (suc (suc (suc (suc (suc (suc (suc zero))))))) b r = r
  grows_of_kind (suc (suc (suc (suc (suc (suc (suc (suc k)))))))) b r = r

  pub rule_grows : (b : Bool) → rule yes no pending b e i ≡ true → rule yes' no' pending' b e i ≡ true
  rule_grows = grows_of_kind e.kind

-- a disjunction with a part that is as wanted need not be pending
module _ (yes no pending pending' : ℕ → Bool) (e : Entry) (i : ℕ) where
  pub rule_split : (b c : Bool) → e.kind ≡ cond b 5 4 → wanted yes no b e.first || wanted yes no b e.second ≡ true
      → rule yes no pending c e i ≡ true → rule yes no pending' c e i ≡ true
  unfolding rule
  rule_split true true k part r = rw (k, part, or-true)
  rule_split true false k part r = rw k (rw k at r)
  rule_split false true k part r = rw k (rw k at r)
  rule_split false false k part r = rw (k, part, or-true)
