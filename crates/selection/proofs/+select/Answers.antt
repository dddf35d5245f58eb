use mathlib.Core.Path.{◌≡◌, ◌∙◌}
use mathlib.Core.Logic.{◌⊎◌, by_cases}
use mathlib.Core.Logic.◌⊎◌.{inl, inr}
use Prim.Native.Nat.{ℕ, suc, ◌+◌, ◌-◌, ◌<◌, ◌≤◌, zero-le}
use native.Mathlib.Numerals.{add-one}
use native.Mathlib.Decide.{ℕ_discrete, dec_le}
use native.Mathlib.Omega.{arith}
use Rattle.sets.specs.Set.{code}
use Rattle.counting.specs.Question.{problem_of}
use Rattle.selection.proofs.Selecting.{selected_met, selecting_few, selecting_relaxing, selected_refuted, selected_solved, selecting_seen, selected_seen}
use Rattle.selection.proofs.Varying.{tried_space, tried_selecting, tried_some, tried_none}
use Rattle.selection.proofs.Varying.{Without, without_varying, without_more, varied_found, varied_spanned, varied_none}
use Rattle.selection.proofs.Varying.{selecting_next, selected_risen, risen_varying, selected_fallen}
use Rattle.selection.proofs.Swapping.{swapped_made, swapped_selecting, selected_back}
use Rattle.selection.proofs.+select.Goals as goal
use Rattle.selection.proofs.+select.Goals.{fall-Else-tried, rise-Else-tried}

-- ---- branch

pub branch-vary-found-requires : goal.branch-vary-found-requires
branch-vary-found-requires t c = (omega arith, swapped_selecting c.requires c.within.ensures (swapped_made c.swap.ensures.by_index) c.swap.ensures.len)

pub branch-returns : goal.branch-returns
branch-returns t c =
    selected_back c.requires c.within.ensures (swapped_made c.swap.ensures.by_index) (swapped_made c.swap-2.ensures.by_index) c.vary-found.result c.vary-found.ensures

-- ---- fall

pub fall-tried-requires : goal.fall-tried-requires
fall-tried-requires t c =
    (omega arith, without_varying c.requires c.loop-m.invariant.1 (omega (arith, c.loop-m.invariant.0)))

pub fall-returns-then-tried : goal.fall-returns-then-tried
fall-returns-then-tried t c =
    varied_found c.requires c.loop-m.invariant.1 (omega arith) (omega (arith, c.loop-m.invariant.0, c.loop-m-test.true)) (rw c.if-tried.true at c.tried.ensures)

-- the numbers from one less on
one_less : (m end j : ℕ) → 0 < m → m - 1 ≤ j → j < end → (j ≡ m - 1) ⊎ ((m ≤ j) × (j < end))
one_less m end j pos more less = by_cases (ℕ_discrete j (m - 1)) (λ (is : j ≡ m - 1). inl is) (λ (not-it : ¬ (j ≡ m - 1)). inr (omega arith, less))

-- the number that was tried gives none
fall_passed : (t : ℕ) (c : goal.fall-Else-tried t)
    → (let a = c.args in
    Without (problem_of a.entries.now a.q) a.words.now a.at a.k a.slots (code a.b) (c.loop-m.m - 1) a.end c.tried.new.words)
fall_passed t c =
    without_more c.requires c.loop-m.invariant.1 (c.tried.auto.words ∙ c.loop-m.invariant.1.same_length) (rw c.if-tried.false at c.tried.ensures)
    (λ j more less. one_less _ _ j c.loop-m-test.true more less)

pub fall-spanned-requires : goal.fall-spanned-requires
fall-spanned-requires t c =
    let a = c.args in
    (selecting_relaxing a.entries.now a.q (without_varying c.requires (fall_passed t (goal.at.fall-spanned-requires t c).Else-tried) {m = 0} zero-le).selecting, omega arith, omega (arith, c.loop-m.invariant.0, c.requires.small))

-- the numbers up to one, and from it on
up_to_or_from : (m end j : ℕ) → j < end → ((0 ≤ j) × (j < suc m)) ⊎ ((m ≤ j) × (j < end))
up_to_or_from m end j less = by_cases (dec_le m j) (λ (more : m ≤ j). inr (more, less)) (λ (not_more : ¬ (m ≤ j)). inl (zero-le, omega arith))

pub fall-returns-then-spanned : goal.fall-returns-then-spanned
fall-returns-then-spanned t c = varied_spanned c.requires (fall_passed t (goal.at.fall-returns-then-spanned t c).Else-tried) (c.spanned.ensures c.if-spanned.true) (λ j more less. up_to_or_from _ _ j less)

pub fall-loop-m-preserved : goal.fall-loop-m-preserved
fall-loop-m-preserved t c = (omega (arith, c.loop-m.invariant.0), fall_passed t (goal.at.fall-loop-m-preserved t c).Else-tried)

-- ---- rise

pub rise-tried-requires : goal.rise-tried-requires
rise-tried-requires t c = (omega arith, without_varying c.requires c.loop-m.invariant.1 (omega arith))

pub rise-returns-then-tried : goal.rise-returns-then-tried
rise-returns-then-tried t c =
    varied_found c.requires c.loop-m.invariant.1 c.loop-m.invariant.0 (omega (arith, c.loop-m-test.true)) (rw c.if-tried.true at c.tried.ensures)

-- the numbers up to one more
one_more : (start m j : ℕ) → start ≤ j → j < m + 1 → (j ≡ m) ⊎ ((start ≤ j) × (j < m))
one_more start m j more less = by_cases (ℕ_discrete j m) (λ (is : j ≡ m). inl is) (λ (not-it : ¬ (j ≡ m)). inr (more, omega arith))

-- the number that was tried gives none
rise_passed : (t : ℕ) (c : goal.rise-Else-tried t)
    → (let a = c.args in
    Without (problem_of a.entries.now a.q) a.words.now a.at a.k a.slots (code a.b) a.start (c.loop-m.m + 1) c.tried.new.words)
rise_passed t c =
    without_more c.requires c.loop-m.invariant.1 (c.tried.auto.words ∙ c.loop-m.invariant.1.same_length) (rw c.if-tried.false at c.tried.ensures)
    (λ j more less. one_more _ _ j more less)

pub rise-spanned-requires : goal.rise-spanned-requires
rise-spanned-requires t c =
    let a = c.args in
    (selecting_relaxing a.entries.now a.q (without_varying c.requires (rise_passed t (goal.at.rise-spanned-requires t c).Else-tried) {m = 0} zero-le).selecting, omega (arith, c.loop-m-test.true, c.requires.small), c.requires.small)

-- the numbers from one on, and up to it
from_or_up_to : (start m most j : ℕ) → start ≤ j → j < suc most → ((m ≤ j) × (j < suc most)) ⊎ ((start ≤ j) × (j < m + 1))
from_or_up_to start m most j more less = by_cases (dec_le m j) (λ (from : m ≤ j). inl (from, less)) (λ (not-from : ¬ (m ≤ j)). inr (more, omega arith))

pub rise-returns-then-spanned : goal.rise-returns-then-spanned
rise-returns-then-spanned t c = varied_spanned c.requires (rise_passed t (goal.at.rise-returns-then-spanned t c).Else-tried) (c.spanned.ensures c.if-spanned.true) (λ j more less. from_or_up_to _ _ _ j more less)

pub rise-loop-m-preserved : goal.rise-loop-m-preserved
rise-loop-m-preserved t c = (omega (arith, c.loop-m.invariant.0), rise_passed t (goal.at.rise-loop-m-preserved t c).Else-tried)

pub rise-returns-else-spanned : goal.rise-returns-else-spanned
rise-returns-else-spanned t c =
    varied_none c.requires (rise_passed t (goal.at.rise-returns-else-spanned t c).Else-tried) (omega arith) (omega arith)

-- ---- select

pub select-met-requires : goal.select-met-requires
select-met-requires t c =
    let a = c.args in
    (selecting_few a.entries.now a.q c.requires, c.requires.all_asking)

pub select-returns-then-met : goal.select-returns-then-met
select-returns-then-met t c = selected_met c.requires (rw c.if-met.true at c.met.ensures)

pub select-seen-requires : goal.select-seen-requires
select-seen-requires t c =
    let a = c.args in
    selecting_relaxing a.entries.now a.q c.requires

pub select-branch-entries-requires : goal.select-branch-entries-requires
select-branch-entries-requires t c =
    let left : suc (c.args.k - 1) ≡ c.args.k = omega arith in
    (omega arith, rw left (selecting_seen c.requires c.seen.ensures c.seen.auto.words))

pub select-returns-in-Refuted : goal.select-returns-in-Refuted
select-returns-in-Refuted t c = selected_refuted c.requires (c.in-Refuted.ensures)

pub select-returns-in-Solved : goal.select-returns-in-Solved
select-returns-in-Solved t c = selected_solved c.requires (c.in-Solved.ensures)

pub select-returns-in-Unknown : goal.select-returns-in-Unknown
select-returns-in-Unknown t c =
    let left : suc (c.args.k - 1) ≡ c.args.k = omega arith in
    selected_seen c.requires c.seen.ensures c.branch-entries.result (rw left at c.branch-entries.ensures)

-- ---- tried

pub tried-returns-then-m-eq0 : goal.tried-returns-then-m-eq0
tried-returns-then-m-eq0 t c = tried_none c.requires c.if-m-eq0.true c.select.result c.select.ensures

pub tried-put_slot-requires : goal.tried-put_slot-requires
tried-put_slot-requires t c = tried_space c.requires (omega (arith, c.if-m-eq0.false))

pub tried-select-requires-2 : goal.tried-select-requires-2
tried-select-requires-2 t c =
    (omega arith, rw add-one (tried_selecting c.requires (omega (arith, c.if-m-eq0.false)) c.put_slot.ensures))

pub tried-returns : goal.tried-returns
tried-returns t c =
    tried_some c.requires (omega (arith, c.if-m-eq0.false)) c.put_slot.ensures c.select-2.result (rw add-one at c.select-2.ensures)

-- ---- vary

pub vary-useful-most-requires : goal.vary-useful-most-requires
vary-useful-most-requires t c =
    let a = c.args in
    (selecting_few a.entries.now a.q c.requires, c.requires.kept)

pub vary-rise-requires : goal.vary-rise-requires
vary-rise-requires t c = (omega arith, selecting_next c.requires c.useful-most.ensures)

pub vary-returns-then-rise : goal.vary-returns-then-rise
vary-returns-then-rise t c =
    rw c.if-rise.true (selected_risen c.requires c.useful-most.ensures (c.of_code-b.ensures ∙ c.item_or.ensures) (rw c.if-rise.true at c.rise.ensures))

pub vary-fall-requires : goal.vary-fall-requires
vary-fall-requires t c = (
  omega arith,
  risen_varying c.requires c.useful-most.ensures (c.of_code-b.ensures ∙ c.item_or.ensures) (omega (arith, c.min-start.ensures)) (rw c.if-rise.false at c.rise.ensures)
      c.rise.auto.words,
)

pub vary-returns-else-rise : goal.vary-returns-else-rise
vary-returns-else-rise t c =
    selected_fallen c.requires c.useful-most.ensures (c.of_code-b.ensures ∙ c.item_or.ensures) (omega (arith, c.min-start.ensures)) (rw c.if-rise.false at c.rise.ensures)
    c.fall.result c.fall.ensures
