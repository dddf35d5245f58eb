-- A table's entries in wide words, entry by entry.
use mathlib.Core.Path.{◌≡◌, refl, ap, ◌∙◌}
use mathlib.Core.Logic.{⊎_elim}
use mathlib.Core.List.{List}
use Prim.Native.Nat.{ℕ, zero, suc, ◌<◌, ◌≤◌}
use native.Mathlib.Nat.{eq-or-lt_of_le, le_of_suc-le-suc, le_step, lt-suc_self, not-suc-le-zero}
use native.Mathlib.Omega.{arith}
use lib.ListN.{length, get_or, take, replicate, set}
use lib.Seq.{get_or-set_same, get_or-set_other, get_or-take}
use Rattle.semantics.specs.Formula.{Formula, falsum}
use Rattle.packed.proofs.Zeros.{zeros_at}
use Rattle.table.specs.declared.entry.Entry.{Entry}
use Rattle.table.specs.Entry.{entry_in}
use Rattle.table.specs.Formulas.{formulas, formula_at}
use Rattle.table.specs.Space.{weight}
use Rattle.table.specs.Formed.{WellFormed, Fitting}
use Rattle.table.proofs.Accepted.{formula_rule}
use Rattle.wide.specs.Wide.{wide_of, wide_in, FitsWide, StandsFor, Widened}
use Rattle.wide.specs.Fold.{Turned, Folded}
use Rattle.wide.proofs.Standing.{stands_then, entry_stands}

-- the fields of a packed entry have room in a wide one
pub packed_fits : (bytes : List ℕ) (i : ℕ) → FitsWide (entry_in bytes i)
packed_fits bytes i = omega arith

pub widened_none : (bytes : List ℕ) (n : ℕ) → Widened bytes 0 (replicate n 0)
widened_none bytes n = record {
  formed = λ i h. absurd (not-suc-le-zero h);
  weight = λ i h. absurd (not-suc-le-zero h);
  stands = λ i h. absurd (not-suc-le-zero h);
  behind = λ i h. zeros_at n i;
}

-- entries that agree up to i have the same formula there
formulas_ext : {entry entry' : ℕ → Entry} (n : ℕ) → ((i : ℕ) → i < n → entry i ≡ entry' i) → formulas entry n ≡ formulas entry' n
unfolding formulas
formulas_ext zero same = refl
formulas_ext (suc n) same = rw (formulas_ext n (λ i l. same i (le_step l)), same n (lt-suc_self n))

formula_ext : {entry entry' : ℕ → Entry} (i : ℕ) → ((j : ℕ) → j ≤ i → entry j ≡ entry' j) → formula_at entry i ≡ formula_at entry' i
unfolding formula_at
formula_ext i same = ap (λ (known : List Formula). get_or known i falsum) (formulas_ext (suc i) (λ j b. same j (le_of_suc-le-suc b)))

module _ {bytes words : List ℕ} {n : ℕ} (formed : WellFormed (entry_in bytes) (suc n)) (held : Widened bytes n words) (x : ℕ) (room : n < length words)
    (fold : Folded (wide_in words) n (entry_in bytes n) (wide_of x)) where
  abbrev more : List ℕ
  more = set words n x

  new : get_or more n 0 ≡ x
  new = get_or-set_same words n x 0 room

  old : (i : ℕ) → i < n → get_or more i 0 ≡ get_or words i 0
  old i l = get_or-set_other words n i x 0 (omega arith)

  old_formula : (i : ℕ) → i < n → formula_at (wide_in more) i ≡ formula_at (wide_in words) i
  old_formula i l = formula_ext i (λ j b. ap wide_of (old j (omega arith)))

  -- what holds of the entries before place n, and of the one there, holds of all up to it
  up_to : (P : ℕ → Type 0) → ((i : ℕ) → i < n → P i) → P n → (i : ℕ) → i < suc n → P i
  up_to P before here i h = ⊎_elim (λ (at : i ≡ n). rw at here) (λ (l : i < n). before i l) (eq-or-lt_of_le (le_of_suc-le-suc h))

  fits : Fitting (wide_of x) n
  fits =
      let f = formed n (lt-suc_self n) in
      record {
        kind = rw fold.kind f.kind;
        first = λ u. let less = f.first (rw fold.kind at u) in omega (arith, fold.first.back);
        second = λ u. let less = f.second (rw fold.kind at u) in omega (arith, fold.second.back);
      }

  more_formed : WellFormed (wide_in more) (suc n)
  more_formed = up_to (λ i. Fitting (wide_in more i) i) (λ i l. rw (old i l) (held.formed i l)) (rw new fits)

  part_stands : {j r : ℕ} → Turned (wide_in words) n j r → r < n → StandsFor (formula_at (wide_in more) j) (formula_at (entry_in bytes) r)
  part_stands {j} {r} turned l =
      let less : j < n = omega (arith, turned.back) in
      rw (old_formula j less) (stands_then (turned.stands l) (held.stands r l))

  new_stands : StandsFor (formula_at (wide_in more) n) (formula_at (entry_in bytes) n)
  new_stands =
      let f = formed n (lt-suc_self n) in
      rw (formula_rule more_formed n (lt-suc_self n), formula_rule formed n (lt-suc_self n), new)
      (entry_stands (formula_at (wide_in more)) (formula_at (entry_in bytes)) (entry_in bytes n) (wide_of x) fold.kind fold.name fold.grade
      (λ u. part_stands fold.first (f.first u)) (λ u. part_stands fold.second (f.second u)))

  pub widened_next : Widened bytes (suc n) more
  widened_next = record {
    formed = more_formed;
    weight = up_to (λ i. weight (wide_in more i) ≡ weight (entry_in bytes i)) (λ i l. rw (old i l) (held.weight i l)) (rw (new, fold.kind, fold.grade) refl);
    stands = up_to (λ i. StandsFor (formula_at (wide_in more) i) (formula_at (entry_in bytes) i)) (λ i l. rw (old_formula i l) (held.stands i l)) new_stands;
    behind = λ i h. get_or-set_other words n i x 0 (omega arith) ∙ held.behind i (omega arith);
  }

-- the words cut to the size of the table, as they are lent
module _ {bytes words : List ℕ} {n : ℕ} (held : Widened bytes n words) where
  cut : (i : ℕ) → i < n → wide_in (take n words) i ≡ wide_in words i
  cut i l = ap wide_of (get_or-take n words i 0 l)

  pub wide_weight : (i : ℕ) → i < n → weight (wide_in (take n words) i) ≡ weight (entry_in bytes i)
  wide_weight i l = ap weight (cut i l) ∙ held.weight i l

  pub wide_formed : WellFormed (wide_in (take n words)) n
  wide_formed i l = rw (cut i l) (held.formed i l)

  pub wide_stands : (i : ℕ) → i < n → StandsFor (formula_at (wide_in (take n words)) i) (formula_at (entry_in bytes) i)
  wide_stands i l = rw (formula_ext i (λ j b. cut j (omega arith))) (held.stands i l)
