-- `entry_word` meets its contract: each arm is the row of its kind, read for all worlds at once.
use mathlib.Core.Path.{◌≡◌, refl, sym, ap₂, ◌∙◌}
use mathlib.Core.Bool.{Bool, true, false}
use Prim.Native.Nat.{ℕ, ◌+◌, ◌-◌, ◌^◌, ◌≤◌}
use native.Mathlib.Omega.{arith}
use lib.Bits.{bit_and, bit_or}
use lib.Dec.{leb}
use lib.ListN.{get_or, get_or-eq_default}
use Rattle.semantics.specs.Formula.{Formula}
use Rattle.semantics.specs.Structure.{Structure, successors}
use Rattle.semantics.specs.Truth.{truth}
use Rattle.sets.specs.Word.{word}
use Rattle.sets.proofs.Words.{word_ext, word_none, word_both, word_either, word_not}
use Rattle.table.specs.declared.entry.Entry.{Entry}
use Rattle.table.specs.Formulas.{formula_of}
use Rattle.table.specs.Check.{uses_of}
use Rattle.table.proofs.Formulas.{truth_rows, truth_of_kind}
use Rattle.truth_table.specs.Masks.{LinkRow}
use Rattle.truth_table.specs.declared.entry_word.Grid.{Grid}
use Rattle.truth_table.proofs.Counting.{at_most}
use Rattle.truth_table.proofs.entry_word.entry_word.Goals as goal

module _ (s : Structure) (ref : ℕ → Formula) (e : Entry) where
  -- the row of a kind, for all worlds
  abbrev row_word : ℕ → ℕ
  row_word k = word (λ w. get_or (truth_rows s w (λ j. truth s (ref j)) e) k false) s.worlds

  by_row : {k : ℕ} → e.kind ≡ k → row_word k ≡ word (truth s (formula_of ref e)) s.worlds
  by_row {k} h = word_ext s.worlds (λ w l. sym (truth_of_kind s w ref e k h))

  -- no kind from 8 on means anything
  no_row : 8 ≤ e.kind → 0 ≡ word (truth s (formula_of ref e)) s.worlds
  no_row h = sym (word_none s.worlds (λ w l. get_or-eq_default (truth_rows s w (λ j. truth s (ref j)) e) false h)) ∙ by_row refl

-- what `at_least` promises, at the links that an entry asks for
known : {s : Structure} {relation : ℕ} {at : ℕ} {grid : Grid} {part all : ℕ} (p : ℕ → Bool) (grade : ℕ) → LinkRow s relation at grid
    → part ≡ word p s.worlds → all ≡ word (λ w. true) s.worlds → {result : ℕ}
    → ((s : Structure) (relation : ℕ) (p : ℕ → Bool) → LinkRow s relation at grid → part ≡ word p s.worlds
    → all ≡ word (λ w. true) s.worlds → result ≡ word (λ w. leb grade (successors s relation w p)) s.worlds)
    → result ≡ word (λ w. leb grade (successors s relation w p)) s.worlds
known p grade links is every promised = promised _ _ p links is every

pub returns-in-Some-True : goal.returns-in-Some-True
returns-in-Some-True c s ref all few served p q = all ∙ by_row s ref c.args.e (rw c.in-Some-True.field-0-is at c.in-Some-True.ensures.known)

pub returns-in-Some-False : goal.returns-in-Some-False
returns-in-Some-False c s ref all few served p q =
    sym (word_none _ (λ w l. refl)) ∙ by_row s ref c.args.e (rw c.in-Some-False.field-0-is at c.in-Some-False.ensures.known)

pub returns-in-Some-Fact : goal.returns-in-Some-Fact
returns-in-Some-Fact c s ref all few served p q =
    let kind = rw c.in-Some-Fact.field-0-is at c.in-Some-Fact.ensures.known in
    c.item_or.ensures ∙ served.fact kind ∙ by_row s ref c.args.e kind

pub returns-in-Some-Not : goal.returns-in-Some-Not
unfolding uses_of
returns-in-Some-Not c s ref all few served p q =
    let kind = rw c.in-Some-Not.field-0-is at c.in-Some-Not.ensures.known in
    ap₂ (λ (x y : ℕ). bit_and x (2 ^ 64 - 1 - y)) all (p (rw kind refl))
    ∙ word_not _ _ 64 few ∙ by_row s ref c.args.e kind

pub returns-in-Some-And : goal.returns-in-Some-And
unfolding uses_of
returns-in-Some-And c s ref all few served p q =
    let kind = rw c.in-Some-And.field-0-is at c.in-Some-And.ensures.known in
    ap₂ bit_and (p (rw kind refl)) (q (rw kind refl)) ∙ word_both _ _ _ ∙ by_row s ref c.args.e kind

pub returns-in-Some-Or : goal.returns-in-Some-Or
unfolding uses_of
returns-in-Some-Or c s ref all few served p q =
    let kind = rw c.in-Some-Or.field-0-is at c.in-Some-Or.ensures.known in
    ap₂ bit_or (p (rw kind refl)) (q (rw kind refl)) ∙ word_either _ _ _ ∙ by_row s ref c.args.e kind

pub returns-in-Some-AtLeast : goal.returns-in-Some-AtLeast
unfolding uses_of
returns-in-Some-AtLeast c s ref all few served p q =
    let kind = rw c.in-Some-AtLeast.field-0-is at c.in-Some-AtLeast.ensures.known in
    let links = served.links (omega arith) in
    let part = p (rw kind refl) in
    search (known (truth s (ref c.args.e.first)) c.args.e.grade links part all) ∙ by_row s ref c.args.e kind

pub returns-in-Some-AtMost : goal.returns-in-Some-AtMost
unfolding uses_of
returns-in-Some-AtMost c s ref all few served p q =
    let kind = rw c.in-Some-AtMost.field-0-is at c.in-Some-AtMost.ensures.known in
    let links = served.links (omega arith) in
    let part = p (rw kind refl) in
    ap₂ (λ (x y : ℕ). bit_and x (2 ^ 64 - 1 - y)) all (search (known (truth s (ref c.args.e.first)) (c.args.e.grade + 1) links part all))
    ∙ word_not _ _ 64 few ∙ word_ext s.worlds (λ w l. at_most c.args.e.grade _) ∙ by_row s ref c.args.e kind

pub returns-in-None : goal.returns-in-None
returns-in-None c s ref all few served p q = no_row s ref c.args.e c.in-None.ensures.unknown
