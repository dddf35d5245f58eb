-- Entries of signs: packed, and completed by an operand.
use mathlib.Core.Path.{◌≡◌, refl}
use mathlib.Core.Bool.{Bool, true, false, ◌&&◌}
use mathlib.Core.List.{List}
use Prim.Native.Nat.{ℕ, ◌+◌, ◌-◌, ◌<◌}
use native.Mathlib.Omega.{arith}
use lib.Dec.{eqb, leb, ltb}
use lib.ListN.{get_or}
use borrow.Author.Tests.{eq-eqb, lt-ltb, ltb-true, eqb-true}
use Rattle.semantics.specs.Formula.{Formula}
use Rattle.table.specs.declared.entry.Entry.{Entry}
use Rattle.table.specs.Entry.{entry_of}
use Rattle.postorder.specs.Order.{inner, size, Ordered}
use Rattle.grammar.specs.declared.Leaf.{Leaf}
use Rattle.grammar.specs.declared.Prefix.{Prefix}
use Rattle.grammar.specs.declared.Join.{Join}
use Rattle.grammar.specs.Tree.{leaf_of, prefix_of, join_of, rank}
use Rattle.typed.specs.declared.pending.Waiting.{Waiting}
use Rattle.typed.specs.Held.{nothing, entry_of_leaf, entry_of_prefix, entry_of_join, rank_of}
use Rattle.typed.specs.Steps.{takes_now, closed_entry}

-- a waiting entry gets its operand
pub prefix_closed : (p : Prefix) (last : ℕ) → closed_entry (entry_of_prefix p 0) last ≡ entry_of_prefix p last
prefix_closed Prefix.Not last = refl
prefix_closed (Prefix.AtLeast n r) last = refl
prefix_closed (Prefix.AtMost n r) last = refl

pub join_closed : (j : Join) (first last : ℕ) → closed_entry (entry_of_join j first 0) last ≡ entry_of_join j first last
join_closed Join.And first last = refl
join_closed Join.Or first last = refl

-- and binds as its sign does
pub prefix_rank : (p : Prefix) (first : ℕ) → rank_of (entry_of_prefix p first).kind ≡ 2
prefix_rank Prefix.Not first = refl
prefix_rank (Prefix.AtLeast n r) first = refl
prefix_rank (Prefix.AtMost n r) first = refl

pub join_rank : (j : Join) (first second : ℕ) → rank_of (entry_of_join j first second).kind ≡ rank j
join_rank Join.And first second = refl
join_rank Join.Or first second = refl

-- the entries of a formula, from those of its operands and its own
module _ (entry : ℕ → Entry) (b : ℕ) where
  pub leaf_ordered : (l : Leaf) → entry b ≡ entry_of_leaf l → Ordered entry b (leaf_of l)
  unfolding Ordered
  leaf_ordered Leaf.True own = own
  leaf_ordered Leaf.False own = own
  leaf_ordered (Leaf.Fact n) own = own

  pub prefix_ordered : (p : Prefix) (φ : Formula) → Ordered entry b φ → entry (b + size φ) ≡ entry_of_prefix p (b + inner φ) → Ordered entry b (prefix_of p φ)
  unfolding Ordered
  prefix_ordered Prefix.Not φ part own = (part, own)
  prefix_ordered (Prefix.AtLeast n r) φ part own = (part, own)
  prefix_ordered (Prefix.AtMost n r) φ part own = (part, own)

  pub join_ordered : (j : Join) (φ ψ : Formula) → Ordered entry b φ → Ordered entry (b + size φ) ψ
      → entry (b + size φ + size ψ) ≡ entry_of_join j (b + inner φ) (b + size φ + inner ψ) → Ordered entry b (join_of j φ ψ)
  unfolding Ordered
  join_ordered Join.And φ ψ first second own = (first, second, own)
  join_ordered Join.Or φ ψ first second own = (first, second, own)

pub leaf_inner : (l : Leaf) → inner (leaf_of l) ≡ 0
unfolding inner
leaf_inner Leaf.True = refl
leaf_inner Leaf.False = refl
leaf_inner (Leaf.Fact n) = refl

pub prefix_inner : (p : Prefix) (φ : Formula) → inner (prefix_of p φ) ≡ size φ
unfolding inner
prefix_inner Prefix.Not φ = refl
prefix_inner (Prefix.AtLeast n r) φ = refl
prefix_inner (Prefix.AtMost n r) φ = refl

pub join_inner : (j : Join) (φ ψ : Formula) → inner (join_of j φ ψ) ≡ size φ + size ψ
unfolding inner
join_inner Join.And φ ψ = refl
join_inner Join.Or φ ψ = refl

-- three tests in one
all_three : (x y z : Bool) → x && (y && z) ≡ true → (x ≡ true) × (y ≡ true) × (z ≡ true)
all_three true true true e = (refl, refl, refl)
all_three true true false e = let z : ◌≡◌ {A = ℕ} 0 1 = cc in absurd (omega arith)
all_three true false z e = let z : ◌≡◌ {A = ℕ} 0 1 = cc in absurd (omega arith)
all_three false y z e = let z : ◌≡◌ {A = ℕ} 0 1 = cc in absurd (omega arith)

module _ (stack : List Waiting) (k c b : ℕ) where
  pub takes_parts : takes_now stack k c b ≡ true → (0 < k) × ((get_or stack (k - 1) nothing).depth ≡ c) × (leb b (rank_of (entry_of (get_or stack (k - 1) nothing).word).kind) ≡ true)
  takes_parts e =
      let parts = all_three (ltb 0 k) _ _ e in
      (ltb-true 0 k parts.0, eqb-true _ _ parts.1, parts.2)

  pub takes_last : {e : Entry} {r : ℕ} → (k ≡ 0 → ⊥) → (get_or stack (k - 1) nothing).depth ≡ c → e ≡ entry_of (get_or stack (k - 1) nothing).word → r ≡ rank_of e.kind
      → leb b r ≡ takes_now stack k c b
  takes_last some here is ranks =
      let yes : ltb 0 k ≡ true = lt-ltb 0 k (omega arith) in
      let same : eqb ((get_or stack (k - 1) nothing).depth) c ≡ true = eq-eqb _ _ here in
      rw (yes, same, ranks, is) refl
