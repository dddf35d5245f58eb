-- From worlds to relations and back: where the first case of a split fails, the second is left; relations that all have solutions give a world.
use mathlib.Core.Path.{◌≡◌, refl, sym, ap, ◌∙◌}
use mathlib.Core.Logic.{⊎_elim}
use mathlib.Core.Bool.{Bool, true, false, false≢true}
use Prim.Native.Nat.{ℕ, suc, ◌-◌, ◌<◌, ◌≤◌}
use native.Mathlib.Nat.{suc-mul, not-suc-le-zero}
use native.Mathlib.Omega.{arith}
use lib.Dec.{eqb}
use borrow.Author.Tests.{eqb-true}
use Rattle.semantics.specs.Structure.{Structure}
use Rattle.sets.specs.Set.{member, nothing, but_not}
use Rattle.sets.specs.Word.{Greatest}
use Rattle.table.specs.declared.entry.Entry.{Entry}
use Rattle.semantics.specs.Answer.{Answers}
use Rattle.tableau.specs.Counting.{speaks, Solution}
use Rattle.sets.proofs.Tests.{both_parts}
use Rattle.tableau.proofs.Solved.{solved}
use Rattle.tableau.proofs.Built.{built}
use Rattle.wants.specs.declared.Wants.{Wants}
use Rattle.wants.specs.Outcome.{MeetsW}
use Rattle.cases.specs.World.{SatW, CaseOf, Ready, Waiting, Branch}
use Rattle.cases.specs.Force.{Forced}
use Rattle.cases.specs.Levels.{Roomy}
use Rattle.cases.proofs.Splitting.{ready_wider, waiting, cases}
use Rattle.cases.proofs.Forcing.{forced_back, forced_forth}
use Rattle.promises.specs.Relation.{counting}
use Rattle.satisfy.specs.Asking.{Solving, AllSolved, CountAnswers}

-- What is left to be looked into while w is split: some world is as w wants exactly where some world is as v wants, of which nothing is
-- pending from `top` on.
pub record Remaining (entry : ℕ → Entry) (n depth bound : ℕ) (w v : Wants) (top : ℕ) : Type 0 where
  pub ready : Ready entry n v top depth
  pub small : top ≤ bound
  pub back : SatW entry v → SatW entry w
  pub forth : SatW entry w → SatW entry v

-- no world that is as wanted falls under the case
abbrev pub Fails : (ℕ → Entry) → Wants → (d : ℕ) → (case : Bool) → Type 0
Fails entry w d case = (s : Structure) (u : ℕ) → u < s.worlds → MeetsW entry s u w → CaseOf entry case d s u → ⊥

module _ {entry : ℕ → Entry} {n depth bound top : ℕ} {w v : Wants} (left : Remaining entry n depth bound w v top) where
  pub remaining_answer : (r : Bool) → Answers r (SatW entry v) → Answers r (SatW entry w)
  remaining_answer true sat = left.back sat
  remaining_answer false none = λ sat. none (left.forth sat)

  -- what follows without a split
  pub remaining_forced : {u : Wants} → Forced entry n v top depth u → Remaining entry n depth bound w u top
  remaining_forced forced = record {
    ready = forced.ready;
    small = left.small;
    back = λ sat. left.back (forced_back forced sat);
    forth = λ sat. forced_forth forced (left.forth sat);
  }

  module _ {d : ℕ} (few : bound ≤ 64) (highest : Greatest (member v.pending) d) where
    open_pending : Waiting entry n v d 64 depth
    open_pending = waiting (ready_wider left.ready (omega (arith, left.small))) highest

    pub split_below : d < top
    split_below = left.ready.pending_below d highest.here

    -- the first case fails: what is left is the second one
    pub remaining_second : {u : Wants} → Fails entry v d true → Branch entry n false d v depth u → Remaining entry n depth bound w u d
    remaining_second {u} fails branch = record {
      ready = branch.ready;
      small = omega (arith, split_below, left.small);
      back = λ sat. left.back (branch.sound sat);
      forth = λ sat. second (left.forth sat);
    }
      where
        second : SatW entry v → SatW entry u
        second sat =
            let s = sat.structure in
            let x = sat.world in
            ⊎_elim (λ (one : CaseOf entry true d s x). absurd (fails s x sat.inside sat.meets one))
            (λ (two : CaseOf entry false d s x). record { structure = s; world = x; inside = sat.inside; meets = branch.complete s x sat.meets two })
            (cases open_pending s x sat.meets)

    -- both cases fail
    pub remaining_none : Fails entry v d true → Fails entry v d false → SatW entry w → ⊥
    remaining_none one two sat =
        let at = left.forth sat in
        let s = at.structure in
        let u = at.world in
        ⊎_elim (one s u at.inside at.meets) (two s u at.inside at.meets) (cases open_pending s u at.meets)

-- a case that no world is like fails
pub case_fails : {entry : ℕ → Entry} {n d depth : ℕ} {w : Wants} (case : Bool) {v : Wants} → Branch entry n case d w depth v → (SatW entry v → ⊥) → Fails entry w d case
case_fails case branch unsat s u inside meets so = unsat (record { structure = s; world = u; inside = inside; meets = branch.complete s u meets so })

module _ (entry : ℕ → Entry) (w : Wants) where
  pub solving_none : (p : ℕ → Bool) → p ≡ (λ i. counting w (entry i) i) → Solving entry w p
  solving_none p is = record {
    within = λ i h. ap (λ (q : ℕ → Bool). q i) (sym is) ∙ h;
    solved = λ i h out. absurd (false≢true (sym out ∙ ap (λ (q : ℕ → Bool). q i) is ∙ h));
  }

  -- the relation of entry i has a solution: all that speaks of it is done
  pub solving_next : {rest : ℕ → Bool} (i : ℕ) → Solving entry w rest → Solution entry (member w.yes) (member w.no) (entry i).name
      → (all : ℕ → Bool) → all ≡ (λ j. speaks (member w.yes) (member w.no) (entry j) j (entry i).name) → Solving entry w (but_not rest all)
  solving_next {rest} i solving solution all is = record {
    within = λ j h. solving.within j (both_parts true (rest j) _ h).0;
    solved = λ j h out. by_rest j h (rest j) refl (all j) refl out;
  }
    where
      by_rest : (j : ℕ) → counting w (entry j) j ≡ true → (r : Bool) → rest j ≡ r → (a : Bool) → all j ≡ a → but_not rest all j ≡ false
          → Solution entry (member w.yes) (member w.no) (entry j).name
      by_rest j h false out a here gone = solving.solved j h out
      by_rest j h true in_rest true here gone =
          let named = (both_parts true (eqb (entry j).name (entry i).name) _ (ap (λ (q : ℕ → Bool). q j) (sym is) ∙ here)).0 in
          rw (eqb-true (entry j).name (entry i).name named) solution
      by_rest j h true in_rest false here gone = absurd (false≢true (sym gone ∙ rw (in_rest, here)))

  pub solving_done : {rest : ℕ → Bool} → Solving entry w rest → rest ≡ nothing → AllSolved entry w
  solving_done solving none i h = solving.solved i h (ap (λ (q : ℕ → Bool). q i) none)

  -- where nothing is pending, solutions of all relations are enough
  pub solved_world : {n depth : ℕ} → Ready entry n w 0 depth → (r : Bool) → CountAnswers entry w r → Answers r (SatW entry w)
  solved_world ready true all =
      built ready.formed ready.settled (λ i. unpending (member w.pending i) (λ h. not-suc-le-zero (ready.pending_below i h))) all
    where
      unpending : (x : Bool) → (x ≡ true → ⊥) → x ≡ false
      unpending true h = absurd (h refl)
      unpending false h = refl
  solved_world ready false none = none

  -- a relation without a solution leaves no world
  pub unsolved : {n bound depth : ℕ} → Ready entry n w bound depth → (r : ℕ) → (Solution entry (member w.yes) (member w.no) r → ⊥) → SatW entry w → ⊥
  unsolved ready r none sat = none (solved ready.formed ready.settled.below sat r)

-- the words of the next depth
pub room_below : {entry : ℕ → Entry} {n depth level words : ℕ} → Roomy entry n depth level words → 0 < depth → Roomy entry n (depth - 1) level (words - level)
room_below {depth = depth} {level = level} room deep =
    let same : suc (depth - 1) ≡ depth = omega arith in
    record { stack = room.stack; levels = rw same (omega (arith, suc-mul depth level, room.levels)) }

pub room_level : {entry : ℕ → Entry} {n depth level words : ℕ} → Roomy entry n depth level words → level ≤ words
room_level {depth = depth} {level = level} room = omega (arith, suc-mul depth level, room.levels)
