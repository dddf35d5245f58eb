-- Slots that are taken greedily may stand in a solution: their sets can be kept, no limit is broken, and each serves a need that was unmet.
use mathlib.Core.Path.{◌≡◌, sym, ap, ap₂, ◌∙◌}
use mathlib.Core.Logic.◌⊎◌.{inl, inr}
use mathlib.Core.Bool.{Bool, false≢true}
use mathlib.Core.List.{List}
use Prim.Native.Nat.{ℕ, suc, ◌+◌, ◌*◌, ◌<◌, ◌≤◌}
use native.Mathlib.Nat.{suc-mul, not-suc-le-zero}
use native.Mathlib.Omega.{arith}
use lib.ListN.{get_or, take}
use lib.Seq.{get_or-take}
use Rattle.sets.specs.declared.Set.{Set}
use Rattle.sets.specs.Set.{member, code, Within}
use Rattle.table.specs.Space.{sum_of_grades}
use Rattle.tableau.specs.Search.{Slot, taken, Problem, asking, Fit, Useful}
use Rattle.tableau.proofs.Steps.{kept_none, kept_taken}
use Rattle.memory.proofs.Moved.{memory_moved}
use Rattle.counting.specs.Stack.{slot_at, slots_of, Put}
use Rattle.counting.proofs.Slots.{slots_same, put_slots, put_copies}
use Rattle.counting.proofs.Standing.{serving_bound, serving_more}
use Rattle.cases.specs.Levels.{Roomy, Remembers}
use Rattle.promises.specs.Promise.{Promising}
use Rattle.satisfy.specs.Greedy.{FitIfAny, Taken}

-- only where the promises lie depends on them
pub promising_of : {P : Problem} {promises others : ℕ → Bool} {depth : ℕ} → Promising P promises depth → Within others (asking P) → Promising P others depth
promising_of all within = record { formed = all.formed; few = all.few; below = all.below; within = within; shallow = all.shallow }

module _ (P : Problem) where
  pub taken_none : (work : List ℕ) → Taken P 0 work
  unfolding slots_of
  taken_none work = record { copies = λ j l. absurd (not-suc-le-zero l); fit = tt; kept = kept_none; serving = tt }

  module _ {slots : ℕ} where
    pub taken_below : {depth level words : ℕ} {work : List ℕ} → Roomy P.entry P.n depth level words → Taken P slots work → 2 * slots ≤ level
    taken_below {work = work} room t = omega (arith, serving_bound P work slots t.serving, room.stack)

    -- the words of the level are as before
    pub taken_kept : {level : ℕ} (before after : List ℕ) → 2 * slots ≤ level → take level after ≡ take level before → Taken P slots before → Taken P slots after
    taken_kept {level} before after room same t =
        let here : (i : ℕ) → i < level → get_or after i 0 ≡ get_or before i 0 =
        λ i l. sym (get_or-take level after i 0 l) ∙ ap (λ (w : List ℕ). get_or w i 0) same ∙ get_or-take level before i 0 l in
        let slot : (j : ℕ) → j < slots → slot_at after j ≡ slot_at before j = λ j l. ap₂ taken (here (2 * j) (omega arith)) (here (2 * j + 1) (omega arith)) in
        let all = slots_same before after slots slot in
        record {
          copies = λ j l. omega (arith, ap (λ (s : Slot). s.copies) (slot j l), t.copies j l);
          fit = rw all t.fit;
          kept = rw all t.kept;
          serving = rw all t.serving;
        }

    module _ {work : List ℕ} {b m : ℕ} (t : Taken P slots work) (useful : Useful P (slots_of work slots) b m) (pos : 0 < m) where
      pub taken_room : suc slots ≤ sum_of_grades P.entry P.n
      taken_room = serving_more P work slots {b = b} {m = m} (pos, useful.serves pos, t.serving)

      pub taken_more : {after : List ℕ} → Fit P b → Put work slots b m after → Taken P (suc slots) after
      taken_more fit put = record {
        copies = put_copies put useful.small t.copies;
        fit = rw (put_slots put) (fit, t.fit);
        kept = rw (put_slots put) (kept_taken t.kept useful);
        serving = rw (put_slots put) (pos, useful.serves pos, t.serving);
      }

  -- a set that is of use is not empty
  pub fit_useful : (s : Set) {slots : List Slot} {m : ℕ} → FitIfAny P s → Useful P slots (code s) m → 0 < m → Fit P (code s)
  unfolding member
  fit_useful s (inl none) useful pos =
      let lacks = useful.serves pos in absurd (false≢true (sym (ap (λ (p : ℕ → Bool). p lacks.need) none) ∙ lacks.promised))
  fit_useful s (inr fit) useful pos = fit

-- a slot was written in the level
pub memory_put : (P : Problem) (depth level : ℕ) {slots b m : ℕ} (before after : List ℕ) → 2 * slots + 2 ≤ level → Put before slots b m after
    → Remembers P.entry depth level before → Remembers P.entry depth level after
memory_put P depth level before after room put memory =
    memory_moved P.entry after (suc depth * level) memory (λ i. put.behind (suc depth * level + i) (omega (arith, suc-mul depth level)))
