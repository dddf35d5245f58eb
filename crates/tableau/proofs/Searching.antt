-- The search from its start to its answer, step by step, in the words of a program: C is the set of all the needs and limits, b the set that is tried.
-- Why: each step keeps the search open and the limits, and a slot that is put on the stack serves a need.
use mathlib.Core.Path.{◌≡◌}
use mathlib.Core.Bool.{Bool, true}
use mathlib.Core.List.{List, [], ◌∷◌}
use Prim.Native.Nat.{ℕ, suc, ◌-◌, ◌^◌, ◌<◌, ◌≤◌, suc-le-suc}
use native.Mathlib.Omega.{arith}
use Rattle.sets.specs.Word.{bit_at}
use Rattle.sets.specs.Set.{Within, NextBelow}
use Rattle.sets.proofs.Submasks.{within_le}
use Rattle.tableau.specs.Wants.{wanted}
use Rattle.tableau.specs.Search.{Slot, taken, Problem, asking, Met, Solvable, Fit, Open, Useful, Searching}
use Rattle.tableau.proofs.Ends.{start, found}
use Rattle.tableau.proofs.Extend.{kept_before}
use Rattle.tableau.proofs.Steps.{kept_none, kept_taken, kept_lowered, open_taken, open_dropped, open_useless, open_unfit, open_skipped, open_lowered, open_never}

module _ {P : Problem} {slots : List Slot} where
  -- only what is left to be tried changes
  moved : {t t' : ℕ} → (Open P slots t → Open P slots t') → Searching P slots t → Searching P slots t'
  moved step s = record { fit = s.fit; kept = s.kept; serving = s.serving; left = λ known. step (s.left known) }

  pub searching_useless : {b : ℕ} → Useful P slots b 0 → Searching P slots (suc b) → Searching P slots b
  searching_useless u = moved (open_useless u)

  pub searching_unfit : {b : ℕ} → (Fit P b → ⊥) → Searching P slots (suc b) → Searching P slots b
  searching_unfit un = moved (open_unfit un)

  pub searching_next : (C : ℕ → Bool) → Within (asking P) C → {b t : ℕ} → NextBelow C t b → Searching P slots t → Searching P slots (suc b)
  searching_next C all {t = t} at =
      moved (open_skipped t at.smaller (λ x l fit. suc-le-suc (at.greatest x (λ i h. all i (fit.within i h)) l)))

  module _ {b m : ℕ} where
    pub searching_taken : 0 < m → Useful P slots b m → Fit P b → Searching P slots (suc b) → Searching P (taken b m ∷ slots) b
    searching_taken pos u fit s = record {
      fit = (fit, s.fit);
      kept = kept_taken s.kept u;
      serving = (pos, u.serves pos, s.serving);
      left = λ known. open_taken u (s.left known);
    }

    pub searching_lowered : 0 < m - 1 → (Met P (taken b m ∷ slots) → ⊥) → Searching P (taken b m ∷ slots) 0 → Searching P (taken b (m - 1) ∷ slots) b
    searching_lowered pos un s = record {
      fit = s.fit;
      kept = kept_lowered (omega arith) s.kept;
      serving = (pos, s.serving.1, s.serving.2);
      left = λ known. open_lowered s.serving.0 un (s.left known);
    }

    pub searching_popped : m ≡ 1 → (Met P (taken b m ∷ slots) → ⊥) → Searching P (taken b m ∷ slots) 0 → Searching P slots b
    searching_popped one un s = record {
      fit = s.fit.1;
      kept = kept_before s.kept;
      serving = s.serving.2;
      left = λ known. open_dropped {b = b} (rw one at (open_lowered s.serving.0 un (s.left known)));
    }

pub searching_never : {P : Problem} → (Met P [] → ⊥) → Searching P [] 0 → Solvable P → ⊥
searching_never un s known = open_never un (s.left known)

module _ (P : Problem) (below : (b : Bool) (i : ℕ) → wanted P.yes P.no b i ≡ true → i < P.n) where
  pub searching_start : (w C : ℕ) → P.n ≤ w → C < 2 ^ w → Within (asking P) (bit_at C) → Searching P [] (suc C)
  searching_start w C fits small all =
      moved (open_skipped (2 ^ w) small (λ x l fit. suc-le-suc (within_le w l (λ i h. all i (fit.within i h)))))
      (record { fit = tt; kept = kept_none; serving = tt; left = start P below w fits })

  pub searching_found : {slots : List Slot} {t : ℕ} → Met P slots → Searching P slots t → Solvable P
  searching_found met s = found P below s.fit met s.kept
