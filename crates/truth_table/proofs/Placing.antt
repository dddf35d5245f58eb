-- Places are given out one after the other: a new row begins where the rows before it end, so it meets none of them.
use mathlib.Core.Path.{◌≡◌, refl, sym, ap, ◌∙◌}
use mathlib.Core.Logic.{by_cases}
use mathlib.Core.Bool.{Bool, true, false}
use mathlib.Core.List.{List}
use Prim.Native.Nat.{ℕ, ◌+◌, ◌≤◌, ◌<◌}
use native.Mathlib.Decide.{ℕ_discrete}
use native.Mathlib.Omega.{arith}
use lib.ListN.{get_or, set, length-set}
use lib.Seq.{get_or-set_same, get_or-set_other}
use Rattle.structure.specs.Masks.{width_of, key_of, place_of, Layout}
use Rattle.structure.proofs.Masks.{key_same}
use Rattle.truth_table.specs.Masks.{Extended}

key_lt : (k : Bool) {name : ℕ} → name < 256 → key_of k name < 512
key_lt true h = omega arith
key_lt false h = omega arith

module _ (worlds used : ℕ) (places : List ℕ) (layout : Layout worlds used places) (k₀ : Bool) (name₀ : ℕ) (h₀ : name₀ < 256) where
  abbrev after : List ℕ
  after = set places (key_of k₀ name₀) used

  new : (k : Bool) (name : ℕ) → key_of k name ≡ key_of k₀ name₀ → place_of after k name ≡ used
  new k name e = rw e (get_or-set_same places (key_of k₀ name₀) used 0 (omega (arith, layout.keys, key_lt k₀ h₀)))

  old : (k : Bool) (name : ℕ) → ¬ (key_of k name ≡ key_of k₀ name₀) → place_of after k name ≡ place_of places k name
  old k name ne = get_or-set_other places (key_of k₀ name₀) (key_of k name) used 0 ne

  -- a word of a row that was there lies below
  below : (k : Bool) (name v : ℕ) → name < 256 → v < width_of k worlds → ¬ (key_of k name ≡ key_of k₀ name₀) → place_of after k name + v < used
  below k name v h l ne = rw (old k name ne) (omega (arith, layout.inside k name h))

  in_room : (k : Bool) (name : ℕ) → name < 256 → place_of after k name + width_of k worlds ≤ used + width_of k₀ worlds
  in_room k name h =
      by_cases (ℕ_discrete (key_of k name) (key_of k₀ name₀))
      (λ (e : key_of k name ≡ key_of k₀ name₀). rw (new k name e, (key_same k k₀ h h₀ e).0) (omega arith))
      (λ (ne : ¬ (key_of k name ≡ key_of k₀ name₀)). rw (old k name ne) (omega (arith, layout.inside k name h)))

  no_meeting : (k k' : Bool) (name name' v v' : ℕ) → name < 256 → name' < 256 → v < width_of k worlds → v' < width_of k' worlds
      → 0 < place_of after k name → place_of after k name + v ≡ place_of after k' name' + v' → key_of k name ≡ key_of k' name'
  no_meeting k k' name name' v v' h h' l l' own e =
      by_cases (ℕ_discrete (key_of k name) (key_of k₀ name₀))
      (λ (y : key_of k name ≡ key_of k₀ name₀).
      by_cases (ℕ_discrete (key_of k' name') (key_of k₀ name₀))
      (λ (y' : key_of k' name' ≡ key_of k₀ name₀). y ∙ sym y')
      (λ (n' : ¬ (key_of k' name' ≡ key_of k₀ name₀)). absurd (omega (arith, e, new k name y, below k' name' v' h' l' n'))))
      (λ (n : ¬ (key_of k name ≡ key_of k₀ name₀)).
      by_cases (ℕ_discrete (key_of k' name') (key_of k₀ name₀))
      (λ (y' : key_of k' name' ≡ key_of k₀ name₀). absurd (omega (arith, e, new k' name' y', below k name v h l n)))
      (λ (n' : ¬ (key_of k' name' ≡ key_of k₀ name₀)).
      layout.apart k k' name name' v v' h h' l l' (rw (old k name n) at own) (rw (old k name n, old k' name' n') at e)))

  -- one row more, where the others end
  pub extended_new : 0 < used → place_of places k₀ name₀ ≡ 0
      → Extended worlds (used + width_of k₀ worlds) k₀ name₀ places (set places (key_of k₀ name₀) used)
  extended_new some none = record {
    layout = record { keys = length-set places (key_of k₀ name₀) used ∙ layout.keys; inside = in_room; apart = no_meeting };
    own = rw (new k₀ name₀ refl) some;
    kept = λ k name h own. old k name (λ e. let same : place_of places k name ≡ 0 = ap (λ (i : ℕ). get_or places i 0) e ∙ none in omega arith);
  }
