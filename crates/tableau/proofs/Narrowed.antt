-- With fewer needs and limits a problem is easier: a solution of the whole is one of the part, by its promises of the part.
-- So where a part has none (known as an unsatisfiable core), the whole has none.
use mathlib.Core.Path.{◌≡◌, refl}
use mathlib.Core.Bool.{Bool, true, false, not, ◌&&◌, and-true}
use mathlib.Core.List.{List, [], ◌∷◌, map}
use Prim.Native.Nat.{ℕ}
use native.Mathlib.Omega.{arith}
use Rattle.sets.specs.Set.{Within}
use Rattle.table.specs.declared.entry.Entry.{Entry}
use Rattle.tableau.specs.Wants.{wanted}
use Rattle.tableau.specs.Counting.{bound, speaks, Row, total, All, Usable, Solution}
use Rattle.sets.proofs.Tests.{both_parts}
use Rattle.tableau.proofs.Bounds.{bound_made, bound_cases, bound_speaks}

-- what is promised of the part
narrow : (ℕ → Bool) → Row → Row
narrow part row = record { promises = λ i. row.promises i && part i; copies = row.copies }

-- of an entry in the part the same is promised
total_narrow : (part : ℕ → Bool) (f : Bool → Bool) (i : ℕ) → part i ≡ true → (rows : List Row)
    → total (λ row. f (row.promises i)) (map (narrow part) rows) ≡ total (λ row. f (row.promises i)) rows
unfolding total narrow
total_narrow part f i here [] = refl
total_narrow part f i here (row ∷ rows) = rw (here, and-true, total_narrow part f i here rows) refl

module _ (entry : ℕ → Entry) (yes no yes' no' : ℕ → Bool) (r : ℕ) (fewer : (b : Bool) → Within (wanted yes' no' b) (wanted yes no b)) where
  part : ℕ → Bool
  part i = speaks yes' no' (entry i) i r

  bound_fewer : (c : Bool) (i : ℕ) → bound yes' no' (entry i) i c ≡ true → bound yes no (entry i) i c ≡ true
  bound_fewer c i h = let (b, want, kind) = bound_cases yes' no' (entry i) i c h in bound_made yes no (entry i) i b c (fewer b i want) kind

  usable_narrow : (rows : List Row) → All (Usable entry yes no r) rows → All (Usable entry yes' no' r) (map (narrow part) rows)
  unfolding narrow part
  usable_narrow [] all = tt
  usable_narrow (row ∷ rows) all = (
    record {
      within = λ i h. (both_parts true (row.promises i) _ h).1;
      feasible = record {
        structure = all.0.feasible.structure;
        world = all.0.feasible.world;
        inside = all.0.feasible.inside;
        keeps = λ c i h bounds. all.0.feasible.keeps c i (both_parts true (row.promises i) _ h).0 (bound_fewer c i bounds);
      };
    },
    usable_narrow rows all.1,
  )

  pub narrowed : Solution entry yes no r → Solution entry yes' no' r
  unfolding part
  narrowed s = record {
    rows = map (narrow part) s.rows;
    usable = usable_narrow s.rows s.usable;
    met = λ i bounds here.
        omega (arith, s.met i (bound_fewer true i bounds) here, total_narrow part (λ b. b) i (bound_speaks yes' no' (entry i) i true bounds here) s.rows);
    kept = λ i bounds here.
        omega (arith, s.kept i (bound_fewer false i bounds) here, total_narrow part not i (bound_speaks yes' no' (entry i) i false bounds here) s.rows);
  }
