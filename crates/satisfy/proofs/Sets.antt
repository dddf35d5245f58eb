-- Wanting a set, entry after entry, and two sets: why the outcome says neither more nor less.
use mathlib.Core.Path.{◌≡◌, refl, sym, ◌∙◌}
use mathlib.Core.Logic.{⊎_elim, by_cases}
use mathlib.Core.Bool.{Bool, true, false, not, false≢true}
use Prim.Native.Nat.{ℕ, ◌≤◌}
use native.Mathlib.Nat.{le_trans}
use native.Mathlib.Decide.{ℕ_discrete}
use native.Mathlib.Omega.{arith}
use lib.Dec.{eqb}
use borrow.Author.Tests.{ne_eqb}
use Rattle.std.specs.Prelude.{Option, Some, None}
use Rattle.semantics.specs.Structure.{Structure}
use Rattle.sets.specs.Set.{nothing, removed}
use Rattle.table.specs.declared.entry.Entry.{Entry}
use Rattle.table.specs.Formulas.{depth_at}
use Rattle.semantics.specs.Answer.{Answers}
use Rattle.tableau.specs.Wants.{Sat}
use Rattle.sets.proofs.Tests.{both_parts}
use Rattle.wants.specs.declared.Wants.{Wants}
use Rattle.wants.specs.Outcome.{NothingWanted, MeetsW, SettledW, Asked, Taken, Refuted}
use Rattle.cases.specs.World.{SatW}
use Rattle.promises.proofs.Promises.{empty_settled}
use Rattle.satisfy.specs.Sets.{SetAsked, Taking, TakenIs, SetsAsked, Settling, SettlingIs}

module _ (entry : ℕ → Entry) (n : ℕ) (b : Bool) (set : ℕ → Bool) (w : Wants) where
  pub taking_none : SettledW entry n w → Taking entry n b set set w w
  taking_none settled = record {
    settled = settled;
    grows = λ c i h. h;
    has = λ i h out. absurd (false≢true (sym out ∙ h));
    meets = λ s u m so. m;
    shallow = λ d low before. before;
    within = λ i h. h;
  }

  module _ {rest : ℕ → Bool} {v : Wants} (taking : Taking entry n b set rest w v) (i : ℕ) (here : rest i ≡ true) where
    pub taking_next : {u : Wants} → Taken entry n b i v u → Taking entry n b set (removed rest i) w u
    taking_next taken = record {
      settled = taken.settled;
      grows = λ c j h. taken.grows c j (taking.grows c j h);
      has = λ j h out.
          by_cases (ℕ_discrete j i)
          (λ (e : j ≡ i). rw e taken.has)
          (λ (other : j ≡ i → ⊥). taken.grows b j (taking.has j h (sym (rw (ne_eqb j i other)) ∙ out)));
      meets = λ s u m so. taken.meets s u (taking.meets s u m so) (so i (taking.within i here));
      shallow = λ d low before c j h.
          ⊎_elim (taking.shallow d low before c j) (λ (l : depth_at entry j ≤ depth_at entry i). le_trans l (low i (taking.within i here))) (taken.no_deeper c j h);
      within = λ j r. taking.within j (both_parts true (not (eqb j i)) (rest j) r).1;
    }

    pub taking_clash : Refuted entry b i v → TakenIs entry n b set w None
    taking_clash refuted s u m so = refuted s u (taking.meets s u m so) (so i (taking.within i here))

  pub taking_asked : {rest : ℕ → Bool} {v : Wants} → SetAsked entry n set w → Taking entry n b set rest w v → (i : ℕ) → rest i ≡ true → Asked entry n i v
  taking_asked asked taking i here = record { formed = asked.formed; few = asked.few; inside = asked.below i (taking.within i here); settled = taking.settled }

-- nothing is wanted
pub none_met : {w : Wants} → NothingWanted w → (entry : ℕ → Entry) (s : Structure) (u : ℕ) → MeetsW entry s u w
none_met none entry s u = rw (none.yes, none.no) (record { as_wanted = elim [ true ↦ λ i h. absurd (false≢true h) | false ↦ λ i h. absurd (false≢true h) ] })

module _ (entry : ℕ → Entry) (n : ℕ) (yes no : ℕ → Bool) (depth : ℕ) (asked : SetsAsked entry n yes no depth) where
  pub first_asked : {w : Wants} → NothingWanted w → SetAsked entry n yes w
  first_asked none = record { formed = asked.formed; few = asked.few; below = asked.below true; settled = rw (none.yes, none.no, none.pending) (empty_settled entry n) }

  pub second_asked : {v : Wants} → SettledW entry n v → SetAsked entry n no v
  second_asked settled = record { formed = asked.formed; few = asked.few; below = asked.below false; settled = settled }

  module _ {w : Wants} (none : NothingWanted w) where
    pub first_clash : TakenIs entry n true yes w None → Sat entry yes no → ⊥
    first_clash clash sat = clash sat.structure sat.world (none_met none entry _ _) (λ i h. sat.meets.as_wanted true i h)

    module _ {v : Wants} (first : Taking entry n true yes nothing w v) where
      first_met : (sat : Sat entry yes no) → MeetsW entry sat.structure sat.world v
      first_met sat = first.meets _ _ (none_met none entry _ _) (λ i h. sat.meets.as_wanted true i h)

      pub both_settled : (r : Option Wants) → TakenIs entry n false no v r → SettlingIs entry n yes no depth r
      both_settled (Some u) second = record {
        ready = record {
          formed = asked.formed;
          few = asked.few;
          settled = second.settled;
          shallow = second.shallow depth (asked.shallow false) (first.shallow depth (asked.shallow true) (rw (none.yes, none.no) (elim [ true ↦ λ i h. absurd (false≢true h) | false ↦ λ i h. absurd (false≢true h) ])));
          pending_below = λ i h. let (b, want, k) = second.settled.splits i h in omega (arith, second.settled.below b i want, asked.few);
        };
        sound = λ sat. record {
          structure = sat.structure;
          world = sat.world;
          inside = sat.inside;
          meets = record {
            as_wanted = elim [
              | true ↦ λ i h. sat.meets.as_wanted true i (second.grows true i (first.has i h refl))
              | false ↦ λ i h. sat.meets.as_wanted false i (second.has i h refl)
            ];
          };
        };
        complete = λ sat. record {
          structure = sat.structure;
          world = sat.world;
          inside = sat.inside;
          meets = second.meets _ _ (first_met sat) (λ i h. sat.meets.as_wanted false i h);
        };
      }
      both_settled None clash = λ sat. clash sat.structure sat.world (first_met sat) (λ i h. sat.meets.as_wanted false i h)

pub settling_answer : {entry : ℕ → Entry} {n depth : ℕ} {yes no : ℕ → Bool} {v : Wants} → Settling entry n yes no depth v
    → (r : Bool) → Answers r (SatW entry v) → Answers r (Sat entry yes no)
settling_answer same true sat = same.sound sat
settling_answer same false none = λ sat. none (same.complete sat)
