-- How the largest sets of promises come to be listed. Why none is missed: where the promises of a set cannot all be kept, a set that can be kept
-- leaves out some member of a core of it; it leaves out the first member, or has that and leaves out another one.
use mathlib.Core.Path.{◌≡◌, refl, sym, ap, ◌∙◌}
use mathlib.Core.Logic.{inl, inr, ⊎_elim, by_cases}
use mathlib.Core.Bool.{Bool, true, false, not, ◌||◌, false≢true}
use mathlib.Core.List.{List}
use Prim.Native.Nat.{ℕ, suc, ◌+◌, ◌-◌, ◌*◌, ◌<◌, ◌≤◌, zero-le}
use native.Mathlib.Nat.{suc-mul}
use native.Mathlib.Decide.{ℕ_discrete}
use native.Mathlib.Omega.{arith}
use lib.ListN.{length, take}
use lib.Dec.{eqb}
use borrow.Author.Tests.{eqb-true, eq-eqb, ne_eqb}
use Rattle.std.specs.Prelude.{Result, Ok, Err}
use Rattle.semantics.specs.Count.{count}
use Rattle.sets.specs.declared.Set.{Set}
use Rattle.sets.specs.Set.{member, nothing, added, removed, either, but_not, code, Within}
use Rattle.sets.specs.Word.{bit_at}
use Rattle.table.specs.declared.entry.Entry.{Entry}
use Rattle.tableau.specs.Counting.{Row}
use Rattle.tableau.specs.Search.{Problem, asking, Fit, FitRow, Solvable}
use Rattle.tableau.specs.Listed.{In, Covers}
use Rattle.tableau.specs.Wants.{wanted}
use Rattle.tableau.proofs.Narrowed.{narrowed}
use Rattle.tableau.proofs.Promises.{feasible_fewer}
use Rattle.sets.proofs.Tests.{one_of, both_parts, both_made}
use Rattle.memory.proofs.Moved.{memory_moved}
use Rattle.wide.specs.Wide.{wide_in}
use Rattle.counting.specs.declared.question.Question.{Question}
use Rattle.counting.specs.Question.{problem_of, NoNeed, Closed}
use Rattle.listed.specs.Codes.{codes_from, Inside}
use Rattle.promises.specs.declared.listing.Full.{Full}
use Rattle.satisfy.specs.declared.answers.Guess.{Guess}
use Rattle.sets.proofs.Members.{count_removed}
use Rattle.cases.specs.Levels.{list_room, Roomy, Remembers}
use Rattle.promises.specs.Promise.{Promising}
use Rattle.promises.specs.Listing.{Placed, list_of, AlsoIs, AlsoNew, Lists, FitList, NarrowedIs}
use Rattle.promises.proofs.Promises.{promise_below, promising_fewer}
use Rattle.promises.proofs.Lent.{list_kept}
use Rattle.satisfy.specs.Greedy.{FitIfAny}
use Rattle.satisfy.specs.Largest.{Unkept, Reaches, ListedMore, ListingIs, GuessIs}
use Rattle.satisfy.proofs.Worlds.{room_level}

-- ---- sets

pub either_made : (p q : ℕ → Bool) {r : ℕ → Bool} → Within p r → Within q r → Within (either p q) r
either_made p q a b i h = ⊎_elim (a i) (b i) (one_of (p i) (q i) h)

pub either_left : (p q : ℕ → Bool) → Within p (either p q)
either_left p q i h = rw h refl

pub either_right : (p q : ℕ → Bool) → Within q (either p q)
either_right p q i h = by_left (p i)
  where
    by_left : (b : Bool) → b || q i ≡ true
    by_left true = refl
    by_left false = h

pub either_fewer : (p q r : ℕ → Bool) → Within q r → Within (either p q) (either p r)
either_fewer p q r within = either_made p q (either_left p r) (λ i h. either_right p r i (within i h))

-- with i on the low side, or left out
pub added_within : (p : ℕ → Bool) (i : ℕ) {r : ℕ → Bool} → r i ≡ true → Within p r → Within (added p i) r
added_within p i {r} here rest j h = ⊎_elim (λ (e : eqb j i ≡ true). rw (eqb-true j i e) here) (rest j) (one_of (eqb j i) (p j) h)

pub removed_within : (p : ℕ → Bool) (i : ℕ) → Within (removed p i) p
removed_within p i j h = (both_parts true (not (eqb j i)) (p j) h).1

removed_fewer : (p q : ℕ → Bool) (i : ℕ) → Within p q → Within (removed p i) (removed q i)
removed_fewer p q i within j h = let parts = both_parts true (not (eqb j i)) (p j) h in both_made true parts.0 (within j parts.1)

moved_within : (p q : ℕ → Bool) (i : ℕ) → q i ≡ true → Within (either (added p i) (removed q i)) (either p q)
moved_within p q i here = either_made (added p i) (removed q i) (added_within p i (either_right p q i here) (either_left p q)) (λ j h. either_right p q j (removed_within q i j h))

-- the code of a set spells its members
pub code_above : (s : Set) {p : ℕ → Bool} → member s ≡ p → Within p (bit_at (code s))
unfolding member
code_above s is i h = ap (λ (p : ℕ → Bool). p i) is ∙ h

removed_made : (p : ℕ → Bool) (i j : ℕ) → (j ≡ i → ⊥) → p j ≡ true → removed p i j ≡ true
removed_made p i j off h = rw (ne_eqb j i off, h) refl

-- ---- what cannot be kept

-- what a row promises that may stand in a solution is fit
pub fit_set : (P : Problem) (s : Set) {row : Row} → FitRow P row → Within (member s) row.promises → Fit P (code s)
unfolding member
fit_set P s fit within = record { within = λ i h. fit.within i (within i h); feasible = feasible_fewer within fit.feasible }

pub unfit_unkept : (P : Problem) (s : Set) → (Fit P (code s) → ⊥) → Unkept P (member s)
unfit_unkept P s unfit row fit within = unfit (fit_set P s fit within)

pub unkept_more : (P : Problem) {p q : ℕ → Bool} → Within p q → Unkept P p → Unkept P q
unkept_more P within none row fit h = none row fit (λ i s. h i (within i s))

-- ---- the list, where the words of the level are as before

-- the level has room for a list
pub room_list : {entry : ℕ → Entry} {n depth level words : ℕ} → Roomy entry n depth level words → list_room n ≤ level
room_list room = omega (arith, room.stack)

pub room_placed : (P : Problem) {k depth level words : ℕ} → P.n ≤ 64 → Roomy P.entry P.n depth level words → k ≤ list_room P.n → Placed P.n k level words
room_placed P few room some = record { few = few; some = some; room = room_list room; inside = room_level room }

module _ (P : Problem) where
  pub lists_kept : {k level : ℕ} → list_room P.n ≤ level → (before after : List ℕ) → take level after ≡ take level before → Lists P k level before → Lists P k level after
  lists_kept room before after same lists = record { some = lists.some; fit = λ b h. lists.fit b (rw (list_kept P.n lists.some room before after same) at h) }

  module _ (low high : ℕ → Bool) {k : ℕ} (depth level : ℕ) where
    -- nothing had to be listed
    pub listing_same : {work : List ℕ} → Lists P k level work → Remembers P.entry depth level work → Reaches P low high (list_of P.n level work k)
        → ListedMore P low high k depth level work work k
    listing_same lists memory reaches = record { lists = lists; older = λ b h. h; reaches = reaches; memory = memory }

    -- the words of the level were the same before
    pub listing_from : k ≤ list_room P.n → list_room P.n ≤ level → (before mid after : List ℕ) → take level mid ≡ take level before → (r : Result ℕ Full)
        → ListingIs P low high k depth level mid after r → ListingIs P low high k depth level before after r
    listing_from some room before mid after same (Ok more) h = record {
      lists = h.lists;
      older = λ b i. h.older b (rw (list_kept P.n some room before mid same) i);
      reaches = h.reaches;
      memory = h.memory;
    }
    listing_from some room before mid after same (Err full) h = h

    -- the set of all that is looked for can be kept
    pub listing_also : (before after : List ℕ) (b : ℕ) → list_room P.n ≤ level → Lists P k level before → Remembers P.entry depth level before → Fit P b
        → Within high (bit_at b) → (r : Result ℕ Full) → AlsoIs P.n level k b before after r → ListingIs P low high k depth level before after r
    listing_also before after b room lists memory fit above (Ok more) (is, some, appended) = rw is (record {
      lists = record { some = some; fit = λ c h. ⊎_elim (λ (e : c ≡ b). rw e fit) (lists.fit c) (appended.no_other c h) };
      older = appended.older;
      reaches = λ row f least most i asks promised. (b, appended.new, λ j h. above j (most j h));
      memory = memory_moved P.entry after (suc depth * level) memory (λ i. appended.elsewhere (suc depth * level + i) (omega (arith, suc-mul depth level)));
    })
    listing_also before after b room lists memory fit above (Err full) (is, same) = rw (is, same) (record { lists = lists; memory = memory })

-- whatever is guessed, the answers kept are right
pub guess_memory : (P : Problem) (depth level : ℕ) (after : List ℕ) (g : Guess) → GuessIs P depth level after g → Remembers P.entry depth level after
guess_memory P depth level after (Guess.Among k) list = list.memory
guess_memory P depth level after (Guess.Without s) memory = memory
guess_memory P depth level after Guess.Nothing memory = memory

-- one set more is listed, if it is new
pub listed_new : (P : Problem) {k : ℕ} (depth level : ℕ) (before after : List ℕ) (set : Set) → list_room P.n ≤ level → Lists P k level before
    → Remembers P.entry depth level before → FitIfAny P set → (r : ℕ) → AlsoNew P.n level k set before after r → FitList P r depth level after
listed_new P depth level before after set room lists memory fit r (inl (is, some, appended, filled)) =
    let more = listing_also P nothing nothing depth level before after (code set) room lists memory
    (⊎_elim (λ (none : member set ≡ nothing). absurd (filled none)) (λ (f : Fit P (code set)). f) fit) (λ i h. absurd (false≢true h)) (Ok r) (is, some, appended) in
    record { lists = more.lists; memory = more.memory }
listed_new P depth level before after set room lists memory fit r (inr (is, same)) = rw (is, same) (record { lists = lists; memory = memory })

-- a row that serves a need has one of what is looked for
pub reaches_none : (P : Problem) (s : Set) (low high : ℕ → Bool) (list : List ℕ) → member s ≡ high → NoNeed P s (λ j. j < P.n) → Reaches P low high list
reaches_none P s low high list is none row fit above below i asks promised = absurd (none.none i asks.inside asks (rw is (below i promised)))

pub reaches_known : (P : Problem) (s : Set) (low high : ℕ → Bool) (list : List ℕ) → member s ≡ high → Inside (member s) list → Reaches P low high list
reaches_known P s low high list is (b, here, within) row fit above below i asks promised = (b, here, λ j h. within j (rw is (below j h)))

reaches_older : (P : Problem) (low high : ℕ → Bool) (list longer : List ℕ) → ((b : ℕ) → In b list → In b longer) → Reaches P low high list → Reaches P low high longer
reaches_older P low high list longer older reaches row fit above below i asks promised =
    let (b, here, within) = reaches row fit above below i asks promised in (b, older b here, within)

-- ---- a member of the core is left out, or had

had : (low free : ℕ → Bool) (i : ℕ) (row : ℕ → Bool) → Within row (either low free) → Within row (either (added low i) (removed free i))
had low free i row below j h =
    by_cases (ℕ_discrete j i)
    (λ (e : j ≡ i). rw (eq-eqb j i e) refl)
    (λ (off : ¬ (j ≡ i)). ⊎_elim (λ (l : low j ≡ true). either_left (added low i) (removed free i) j (either_right (λ k. eqb k i) low j l))
    (λ (f : free j ≡ true). either_right (added low i) (removed free i) j (removed_made free i j off f)) (one_of (low j) (free j) (below j h)))

module _ (P : Problem) (low free : ℕ → Bool) (i : ℕ) where
  left_out : (row : ℕ → Bool) → row i ≡ false → Within row (either low free) → Within row (either low (removed free i))
  left_out row out below j h =
      let off : j ≡ i → ⊥ = λ e. false≢true (sym out ∙ ap row (sym e) ∙ h) in
      ⊎_elim (λ (l : low j ≡ true). either_left low (removed free i) j l) (λ (f : free j ≡ true). either_right low (removed free i) j (removed_made free i j off f))
      (one_of (low j) (free j) (below j h))

  reaches_branch : (list : List ℕ) → Reaches P low (either low (removed free i)) list → Reaches P (added low i) (either (added low i) (removed free i)) list
      → Reaches P low (either low free) list
  reaches_branch list without with_it row fit above below j asks promised = by_promise (row.promises i) refl
    where
      by_promise : (b : Bool) → row.promises i ≡ b → Inside row.promises list
      by_promise true is = with_it row fit (added_within low i is above) (had low free i row.promises below) j asks promised
      by_promise false is = without row fit above (left_out row.promises is below) j asks promised

  listing_branch : {k : ℕ} (depth level more : ℕ) (before mid after : List ℕ) → ListedMore P low (either low (removed free i)) k depth level before mid more → (r : Result ℕ Full)
      → ListingIs P (added low i) (either (added low i) (removed free i)) more depth level mid after r → ListingIs P low (either low free) k depth level before after r
  listing_branch depth level more before mid after first (Ok m) second = record {
    lists = second.lists;
    older = λ b h. second.older b (first.older b h);
    reaches =
        let longer = list_of P.n level after m in
        reaches_branch longer (reaches_older P low (either low (removed free i)) (list_of P.n level mid more) longer second.older first.reaches) second.reaches;
    memory = second.memory;
  }
  listing_branch depth level more before mid after first (Err full) second = second

-- what is left of the core cannot be kept beside it
core_had : (P : Problem) (low core : ℕ → Bool) (i : ℕ) → Unkept P (either low core) → Unkept P (either (added low i) (removed core i))
core_had P low core i = unkept_more P (had low core i (either low core) (λ j h. h))

-- no member of the core is left: nothing that has all of the low side can be kept
reaches_unkept : (P : Problem) (low core high : ℕ → Bool) (list : List ℕ) → core ≡ nothing → Unkept P (either low core) → Reaches P low high list
reaches_unkept P low core high list empty none row fit above below i asks promised =
    absurd (none row fit (either_made low core above (λ j h. absurd (false≢true (ap (λ (p : ℕ → Bool). p j) (sym empty) ∙ h)))))

-- The members of `core`, a part of `rest`, cannot all be kept beside `had`: what is listed for `had` and `rest` makes up the list for `low`
-- and `free`.
pub record Branching (P : Problem) (low free : ℕ → Bool) (k depth level : ℕ) (before : List ℕ) (core had rest : ℕ → Bool) (listed : ℕ) (work : List ℕ) : Type 0 where
  pub promising : Promising P (either had rest) (depth - 1)
  pub lists : Lists P listed level work
  pub memory : Remembers P.entry depth level work
  pub within : Within core rest
  pub unkept : Unkept P (either had core)
  pub fewer : count rest 64 ≤ count free 64
  pub as_many : length work ≡ length before
  pub whole : (after : List ℕ) (r : Result ℕ Full) → ListingIs P had (either had rest) listed depth level work after r → ListingIs P low (either low free) k depth level before after r

module _ {P : Problem} {low free : ℕ → Bool} {k depth level : ℕ} {before : List ℕ} {core had rest : ℕ → Bool} {listed : ℕ} {work : List ℕ}
    (at : Branching P low free k depth level before core had rest listed work) where
  -- no member of the core is left
  pub branching_done : core ≡ nothing → ListedMore P low (either low free) k depth level before work listed
  branching_done empty =
      at.whole work (Ok listed)
      (listing_same P had (either had rest) depth level at.lists at.memory (reaches_unkept P had core (either had rest) (list_of P.n level work listed) empty at.unkept))

  module _ (i : ℕ) (here : core i ≡ true) where
    pub branching_small : i < 64
    branching_small =
        omega (arith, promise_below P (either had rest) (depth - 1) at.promising i (either_right had rest i (at.within i here)), at.promising.few)

    pub branching_fewer : count (removed rest i) 64 < count free 64
    branching_fewer = omega (arith, count_removed rest 64 (at.within i here) branching_small, at.fewer)

    pub branching_promising : Promising P (either had (removed rest i)) (depth - 1)
    branching_promising = promising_fewer at.promising (either_fewer had (removed rest i) rest (removed_within rest i))

    -- the sets without it are listed
    pub branching_next : {mid : List ℕ} {more : ℕ} → ListedMore P had (either had (removed rest i)) listed depth level work mid more → length mid ≡ length work
        → Branching P low free k depth level before (removed core i) (added had i) (removed rest i) more mid
    branching_next {mid} {more} first same = record {
      promising = promising_fewer at.promising (moved_within had rest i (at.within i here));
      lists = first.lists;
      memory = first.memory;
      within = removed_fewer core rest i at.within;
      unkept = core_had P had core i at.unkept;
      fewer = omega (arith, branching_fewer);
      as_many = same ∙ at.as_many;
      whole = λ after r h. at.whole after r (listing_branch P had rest i depth level more work mid after first r h);
    }

-- ---- the list stands for all

pub listing_covers : (P : Problem) (base rest : ℕ → Bool) {depth level k : ℕ} (before after : List ℕ) → ((i : ℕ) → base i ≡ true → Closed P i)
    → Within (asking P) (either base rest) → ListedMore P base (either base rest) 0 depth level before after k → Covers P (list_of P.n level after k)
listing_covers P base rest before after closed all listed = record {
  fit = listed.lists.fit;
  above = λ row fit spares i asks promised.
      listed.reaches row fit (λ j h. spares j (closed j h).limit (closed j h).none) (λ j h. all j (fit.within j h)) i asks promised;
}

-- nothing is listed yet
pub lists_none : (P : Problem) (level : ℕ) (work : List ℕ) → Lists P 0 level work
unfolding codes_from
lists_none P level work = record { some = zero-le; fit = λ b h. absurd h }

-- a set in two parts
pub parts_within : (p q : ℕ → Bool) → Within p (either q (but_not p q))
parts_within p q i h = by_part (q i) refl
  where
    by_part : (b : Bool) → q i ≡ b → either q (but_not p q) i ≡ true
    by_part true is = either_left q (but_not p q) i is
    by_part false is = either_right q (but_not p q) i (rw (h, is) refl)

pub parts_inside : (p q : ℕ → Bool) → Within q p → Within (either q (but_not p q)) p
parts_inside p q within = either_made q (but_not p q) within (λ i h. (both_parts true (p i) (not (q i)) h).0)

-- ---- the entries in a set alone

module _ {q p : Question} {s : Set} (narrow : NarrowedIs q s p) where
  pub narrowed_fewer : (b : Bool) → Within (wanted (member p.yes) (member p.no) b) (wanted (member q.yes) (member q.no) b)
  narrowed_fewer true i h = (both_parts true (member q.yes i) _ (rw narrow.yes at h)).0
  narrowed_fewer false i h = (both_parts true (member q.no i) _ (rw narrow.no at h)).0

pub narrowed_solvable : (entries : List ℕ) {q p : Question} {s : Set} → NarrowedIs q s p → Solvable (problem_of entries q) → Solvable (problem_of entries p)
narrowed_solvable entries {q} {p} narrow known =
    rw narrow.relation (narrowed (wide_in entries) (member q.yes) (member q.no) (member p.yes) (member p.no) q.relation (narrowed_fewer narrow) known)
