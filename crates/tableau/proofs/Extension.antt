-- Where a list of sets stands for all, a problem that has a solution has one of listed sets, from no slots on; and what listed sets come to is one.
-- Why: the slots of a solution of listed sets are left for the extension one by one, and the slots that an extension ends in are fit, met and kept.
use mathlib.Core.Path.{◌≡◌, refl}
use mathlib.Core.Bool.{Bool, true}
use mathlib.Core.Logic.◌⊎◌.{inl, inr}
use mathlib.Core.List.{List, [], ◌∷◌}
use Prim.Native.Nat.{ℕ, ◌<◌}
use Rattle.tableau.specs.Wants.{wanted}
use Rattle.tableau.specs.Search.{Slot, Each, Problem, Solvable, Fit, Choice, Extension}
use Rattle.tableau.specs.Search.Choice.{done, some}
use Rattle.tableau.specs.Listed.{In, Covers}
use Rattle.tableau.proofs.Extend.{ext_done, ext_inserted}
use Rattle.tableau.proofs.Ends.{found}
use Rattle.tableau.proofs.Listed.{listed_solution}

module _ {P : Problem} (list : List ℕ) where
  extension_left : (slots : List Slot) → Each (λ b. In b list) slots → Extension P slots list → Extension P [] list
  extension_left [] listed e = e
  extension_left (s ∷ slots) listed e = extension_left slots listed.1 (ext_inserted list listed.0 tt e)

  pub solvable_extension : Covers P list → Solvable P → Extension P [] list
  solvable_extension covers known =
      let (slots, listed, met, kept) = listed_solution P list covers known in
      extension_left slots listed (ext_done met kept list)

module _ (P : Problem) (below : (b : Bool) (i : ℕ) → wanted P.yes P.no b i ≡ true → i < P.n) where
  pub extension_found : {may : ℕ → Type 0} {list : List ℕ} {slots : List Slot} → Each (Fit P) slots → ((b : ℕ) → In b list → Fit P b)
      → Choice P may slots list → Solvable P
  extension_found fit all (done met kept) = found P below fit met kept
  extension_found fit all (some {b = b} m ok e) = extension_found (all b (inl refl), fit) (λ c here. all c (inr here)) e
