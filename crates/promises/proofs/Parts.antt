-- The parts of the promised needs and limits, collected one after the other. Why a successor can keep the promises exactly where some world
-- makes the parts of the needs true and those of the limits false: both speak of the truth of the same entries.
use mathlib.Core.Path.{◌≡◌, refl, sym, ap, ◌∙◌}
use mathlib.Core.Logic.{⊎_elim, by_cases}
use mathlib.Core.Bool.{Bool, true, false, not, ◌&&◌, or-true, false≢true}
use Prim.Native.Nat.{ℕ, ◌<◌}
use native.Mathlib.Decide.{ℕ_discrete}
use native.Mathlib.Omega.{arith}
use lib.Dec.{eqb}
use borrow.Author.Tests.{eq-eqb, ne_eqb, eqb-true}
use Rattle.sets.specs.declared.Set.{Set}
use Rattle.sets.specs.Set.{member, nothing, removed, code, Within}
use Rattle.semantics.specs.Answer.{Answers}
use Rattle.tableau.specs.Wants.{added_if, wanted, Sat}
use Rattle.tableau.specs.Counting.{bound}
use Rattle.tableau.specs.Search.{Problem, Fit}
use Rattle.sets.proofs.Tests.{both_parts, both_made, one_of}
use Rattle.tableau.proofs.Promises.{sat_feasible}
use Rattle.tableau.proofs.Alone.{answers}
use Rattle.promises.specs.Promise.{Promising, HasPart, PartsOf}
use Rattle.promises.proofs.Promises.{named, part_below}

-- the parts of the promises but those of `rest` are found, and only parts of promises
pub record Collected (P : Problem) (promises rest : ℕ → Bool) (c : Bool) (found : ℕ → Bool) : Type 0 where
  pub within : Within rest promises
  pub every : (i : ℕ) → promises i ≡ true → rest i ≡ false → bound P.yes P.no (P.entry i) i c ≡ true → found (P.entry i).first ≡ true
  pub only : (j : ℕ) → found j ≡ true → HasPart P promises c j

module _ {P : Problem} {promises : ℕ → Bool} {c : Bool} where
  pub collected_none : {found : ℕ → Bool} → found ≡ nothing → Collected P promises promises c found
  collected_none is = record {
    within = λ i h. h;
    every = λ i h out. absurd (false≢true (sym out ∙ h));
    only = rw is (λ j h. absurd (false≢true h));
  }

  module _ {rest found : ℕ → Bool} (part : Collected P promises rest c found) where
    pub collected_all : rest ≡ nothing → PartsOf P promises c found
    collected_all none = record { every = λ i h. part.every i h (ap (λ (r : ℕ → Bool). r i) none); only = part.only }

    module _ {depth : ℕ} (all : Promising P promises depth) (i : ℕ) (here : rest i ≡ true) where
      -- the part of the entry at hand has room in a set
      pub part_small : (P.entry i).first < 64
      part_small = omega (arith, part_below P promises depth all i (part.within i here), all.few)

      -- is its part to be found
      abbrev asks : Bool
      asks = eqb (P.entry i).name P.relation && bound P.yes P.no (P.entry i) i c

      collected_more : {more : ℕ → Bool} → Within found more → (asks ≡ true → more (P.entry i).first ≡ true)
          → ((j : ℕ) → more j ≡ true → HasPart P promises c j) → Collected P promises (removed rest i) c more
      collected_more grows has only = record {
        within = λ j r. part.within j (both_parts true (not (eqb j i)) (rest j) r).1;
        every = λ j h out bounds.
            by_cases (ℕ_discrete j i)
            (λ (e : j ≡ i). rw e (has (both_made true (named P promises depth all i (part.within i here)) (rw e at bounds))))
            (λ (other : j ≡ i → ⊥). grows _ (part.every j h (sym (rw (ne_eqb j i other)) ∙ out) bounds));
        only = only;
      }

      pub collected_next : (so : Bool) → asks ≡ so → Collected P promises (removed rest i) c (added_if so found (P.entry i).first)
      collected_next true so =
          collected_more (λ j h. rw (h, or-true)) (λ a. rw (eq-eqb (P.entry i).first _ refl))
          (λ j h.
          ⊎_elim
          (λ (e : eqb j (P.entry i).first ≡ true). (i, part.within i here, (both_parts true (eqb (P.entry i).name P.relation) _ so).1, sym (eqb-true j _ e)))
          (part.only j)
          (one_of (eqb j (P.entry i).first) (found j) h))
      collected_next false not_so = collected_more (λ j h. h) (λ a. absurd (false≢true (sym not_so ∙ a))) part.only

module _ (P : Problem) (promises : Set) {depth : ℕ} (all : Promising P (member promises) depth) {yes no : ℕ → Bool}
    (needs : PartsOf P (member promises) true yes) (limits : PartsOf P (member promises) false no) where
  every_part : (c : Bool) (i : ℕ) → member promises i ≡ true → bound P.yes P.no (P.entry i) i c ≡ true → wanted yes no c (P.entry i).first ≡ true
  every_part true = needs.every
  every_part false = limits.every

  only_part : (c : Bool) (j : ℕ) → wanted yes no c j ≡ true → HasPart P (member promises) c j
  only_part true = needs.only
  only_part false = limits.only

  sat_fit : Sat P.entry yes no → Fit P (code promises)
  unfolding member
  sat_fit sat = record { within = all.within; feasible = sat_feasible every_part sat }

  fit_sat : Fit P (code promises) → Sat P.entry yes no
  unfolding member
  fit_sat fit =
      let here = fit.feasible in
      record {
        structure = here.structure;
        world = here.world;
        inside = here.inside;
        meets = record { as_wanted = λ c j h. let (i, promised, bounds, is) = only_part c j h in rw is at (here.keeps c i promised bounds) };
      }

  pub parts_fit : (a : Bool) → Answers a (Sat P.entry yes no) → Answers a (Fit P (code promises))
  parts_fit = answers sat_fit fit_sat

  pub fit_parts : (a : Bool) → Answers a (Fit P (code promises)) → Answers a (Sat P.entry yes no)
  fit_parts = answers fit_sat sat_fit
