-- The formulas of a table. What is known of the first entries stays as more are read, so an entry's formula is made
-- from the formulas of the entries that it refers to, if these come before it; a reference to a later entry reads as falsum.
use mathlib.Core.Path.{◌≡◌, refl, sym, ap, ◌∙◌}
use mathlib.Core.Logic.{⊎_elim}
use mathlib.Core.Bool.{Bool, true, false, not, ◌&&◌, ◌||◌}
use mathlib.Core.List.{List, [], ◌∷◌}
use Prim.Native.Nat.{ℕ, zero, suc, ◌<◌, ◌≤◌}
use native.Mathlib.Nat.{eq-or-lt_of_le, le_of_suc-le-suc, not-suc-le-zero}
use native.Mathlib.Omega.{arith}
use lib.Dec.{leb}
use lib.ListN.{length, get_or, length-append, get_or-append, get_or-eq_default, get_or-map}
use lib.Seq.{get_or_at}
use Rattle.semantics.specs.Formula.{Formula, falsum, depth}
use Rattle.semantics.specs.Structure.{Structure, successors}
use Rattle.semantics.specs.Truth.{truth}
use Rattle.table.specs.declared.entry.Entry.{Entry}
use Rattle.table.specs.Formulas.{kinds, formula_of, depth_of, formulas, formula_at}

-- what entry i's references read as: the formulas of the entries before it, and falsum from i on
abbrev pub earlier : (ℕ → Entry) → ℕ → ℕ → Formula
earlier entry i j = get_or (formulas entry i) j falsum

pub length_formulas : (entry : ℕ → Entry) (n : ℕ) → length (formulas entry n) ≡ n
unfolding formulas
length_formulas entry zero = refl
length_formulas entry (suc n) = length-append (formulas entry n) _ ∙ omega (arith, length_formulas entry n)

pub formula_at_earlier : (entry : ℕ → Entry) (i : ℕ) → formula_at entry i ≡ formula_of (earlier entry i) (entry i)
unfolding formula_at formulas
formula_at_earlier entry i = get_or_at (formulas entry i) _ [] falsum i (length_formulas entry i)

-- what is known stays
pub earlier_below : (entry : ℕ → Entry) (n j : ℕ) → j < n → earlier entry n j ≡ formula_at entry j
unfolding formulas formula_at
earlier_below entry zero j h = absurd (not-suc-le-zero h)
earlier_below entry (suc n) j h =
    ⊎_elim (λ (e : j ≡ n). rw e refl)
    (λ (l : j < n). get_or-append (formulas entry n) _ falsum j (rw length_formulas l) ∙ earlier_below entry n j l)
    (eq-or-lt_of_le (le_of_suc-le-suc h))

pub earlier_past : (entry : ℕ → Entry) (n j : ℕ) → n ≤ j → earlier entry n j ≡ falsum
earlier_past entry n j h = get_or-eq_default (formulas entry n) falsum (rw length_formulas h)

module _ (s : Structure) (w : ℕ) where
  -- document 01's table of kinds, read as truth at w, a row a kind: t j v is the truth of entry j at v
  abbrev pub truth_rows : (ℕ → ℕ → Bool) → Entry → List Bool
  truth_rows t e =
      true
      ∷ false
      ∷ s.holds e.name w
      ∷ not (t e.first w)
      ∷ (t e.first w && t e.second w)
      ∷ (t e.first w || t e.second w)
      ∷ leb e.grade (successors s e.name w (t e.first))
      ∷ leb (successors s e.name w (t e.first)) e.grade
      ∷ []

  abbrev pub truth_of : (ℕ → ℕ → Bool) → Entry → Bool
  truth_of t e = get_or (truth_rows t e) e.kind false

  -- the rules, one for each kind
  pub truth_formula_of : (ref : ℕ → Formula) (e : Entry) → truth s (formula_of ref e) w ≡ truth_of (λ j. truth s (ref j)) e
  unfolding formula_of kinds truth
  truth_formula_of ref e = sym (get_or-map (λ (φ : Formula). truth s φ w) (kinds ref e) e.kind falsum)

  -- the rule of a known kind
  pub truth_of_kind : (ref : ℕ → Formula) (e : Entry) (k : ℕ) → e.kind ≡ k
      → truth s (formula_of ref e) w ≡ get_or (truth_rows (λ j. truth s (ref j)) e) k false
  truth_of_kind ref e k h = truth_formula_of ref e ∙ ap (λ (k : ℕ). get_or (truth_rows (λ j. truth s (ref j)) e) k false) h

-- document 01's words on depth are those of the formulas
pub depth_formula_of : (ref : ℕ → Formula) (e : Entry) → depth (formula_of ref e) ≡ depth_of (depth (ref e.first)) (depth (ref e.second)) e.kind
unfolding formula_of kinds depth
depth_formula_of ref e = sym (get_or-map depth (kinds ref e) e.kind falsum)
