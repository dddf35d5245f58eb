-- What the functions that call each other hand to each other: each law takes what is known at a call to what the callee asks,
-- or what the callee answers to what is to be returned.
use mathlib.Core.Path.{◌≡◌, refl, sym, ap, ◌∙◌}
use mathlib.Core.Bool.{Bool, true, false, not, false≢true}
use mathlib.Core.Logic.{⊎_elim}
use mathlib.Core.List.{List}
use Prim.Native.Nat.{ℕ, suc, ◌-◌, ◌<◌}
use native.Mathlib.Nat.{le_refl}
use native.Mathlib.Omega.{arith}
use lib.ListN.{length, take, drop, length-drop}
use lib.Seq.{length-take-le}
use borrow.Author.Tests.{eq-eqb, ne_eqb, not-true}
use Rattle.semantics.specs.Count.{count}
use Rattle.semantics.proofs.Count.{count_mono}
use Rattle.sets.specs.declared.Set.{Set}
use Rattle.sets.specs.Set.{member, nothing, removed, but_not, code, Within}
use Rattle.table.specs.declared.entry.Entry.{Entry}
use Rattle.table.specs.Formulas.{depth_at}
use Rattle.semantics.specs.Answer.{Answers}
use Rattle.table.proofs.Accepted.{depth_rule}
use Rattle.tableau.specs.Wants.{wanted, rule}
use Rattle.tableau.specs.Counting.{bound, need, speaks, Feasible, Solution}
use Rattle.tableau.specs.Search.{Problem, asking, Fit}
use Rattle.sets.proofs.Tests.{one_of, both_parts}
use Rattle.tableau.proofs.Bounds.{bound_cases}
use Rattle.counting.specs.declared.question.Question.{Question}
use Rattle.counting.specs.Question.{Small}
use Rattle.wants.specs.declared.Wants.{Wants}
use Rattle.sets.proofs.Members.{count_removed}
use Rattle.cases.specs.World.{SatW, Ready}
use Rattle.cases.specs.Levels.{Roomy, Remembers}
use Rattle.promises.specs.Promise.{Promising, Promised}
use Rattle.promises.specs.Relation.{counting, Bounded, QuestionOf}
use Rattle.promises.proofs.Promises.{counting_depth}
use Rattle.promises.specs.Listing.{Lists, SelectAsked}
use Rattle.satisfy.specs.Asking.{ProblemAsked}
use Rattle.satisfy.specs.Greedy.{FitIfAny, GrowAsked}
use Rattle.satisfy.proofs.Largest.{either_made}
use Rattle.satisfy.proofs.Greedy.{promising_of}

module _ {entry : ℕ → Entry} {n : ℕ} {w : Wants} {bound depth : ℕ} (ready : Ready entry n w bound depth) where
  -- nothing is pending
  pub ready_leaf : member w.pending ≡ nothing → Ready entry n w 0 depth
  ready_leaf none = record {
    formed = ready.formed;
    few = ready.few;
    settled = ready.settled;
    shallow = ready.shallow;
    pending_below = λ i h. absurd (false≢true (ap (λ (p : ℕ → Bool). p i) (sym none) ∙ h));
  }

  pub ready_bounded : Bounded n w
  ready_bounded = record { few = ready.few; below = ready.settled.below }

-- a successor that can be had keeps the promises
pub promised_fit : (P : Problem) (promises : Set) (depth : ℕ) → Promising P (member promises) depth → {v : Wants} → Promised P (member promises) depth v
    → (r : Bool) → Answers r (SatW P.entry v) → Answers r (Fit P (code promises))
unfolding member
promised_fit P promises depth all made true sat = record { within = all.within; feasible = made.sound sat }
promised_fit P promises depth all made false unsat = λ fit. unsat (made.complete fit.feasible)

-- a counting entry that is wanted is not at depth 0
module _ {entry : ℕ → Entry} {n : ℕ} {w : Wants} {b depth : ℕ} (ready : Ready entry n w b depth) (i : ℕ) (counts : counting w (entry i) i ≡ true) where
  bound_of : (c : Bool) × (bound (member w.yes) (member w.no) (entry i) i c ≡ true)
  bound_of =
      ⊎_elim (λ (q : bound (member w.yes) (member w.no) (entry i) i true ≡ true). (true, q)) (λ (q : bound (member w.yes) (member w.no) (entry i) i false ≡ true). (false, q))
      (one_of (need (member w.yes) (member w.no) (entry i) i) _ counts)

  pub counting_below : i < n
  counting_below = let (c, h) = bound_of in let (b, want, k) = bound_cases (member w.yes) (member w.no) (entry i) i c h in ready.settled.below b i want

  pub counting_deep : 0 < depth
  counting_deep =
      let (c, h) = bound_of in
      let (b, want, k) = bound_cases (member w.yes) (member w.no) (entry i) i c h in
      omega (
        arith,
        ready.shallow b i want,
        depth_rule ready.formed i (ready.settled.below b i want),
        counting_depth b c _ (depth_at entry (entry i).first) (depth_at entry (entry i).second) k,
      )

-- the problem that a question poses, where its wants are those of a world
module _ {entry : ℕ → Entry} {n : ℕ} {w : Wants} {b depth : ℕ} (ready : Ready entry n w b depth) {e : Entry} {q : Question} (own : QuestionOf e w q) where
  abbrev problem : Problem
  problem = record { entry = entry; n = n; yes = member q.yes; no = member q.no; relation = q.relation }

  question_below : (c : Bool) (i : ℕ) → wanted (member q.yes) (member q.no) c i ≡ true → i < n
  question_below = rw (own.yes, own.no) ready.settled.below

  pub question_small : Small problem
  question_small = record { few = ready.few; below = question_below }

  pub question_promising : 0 < depth → Promising problem (asking problem) (depth - 1)
  question_promising deep =
      let same : suc (depth - 1) ≡ depth = omega arith in
      record {
        formed = ready.formed;
        few = ready.few;
        below = question_below;
        within = λ i h. h;
        shallow = rw (same, own.yes, own.no) ready.shallow;
      }

  -- none of them is "not at least 0": that has been found to clash
  pub question_positive : (i : ℕ) → member q.no i ≡ true → (entry i).kind ≡ 6 → (entry i).grade ≡ 0 → ⊥
  unfolding rule
  question_positive i want kind grade = false≢true (rw (kind, grade) at (ready.settled.treated false i (rw own.no at want)))

-- what is done is fewer
pub count_done : (p all : ℕ → Bool) {k n : ℕ} → p k ≡ true → all k ≡ true → k < n → count (but_not p all) n < count p n
count_done p all {k} {n} here there l =
    omega (arith, count_removed p n here l, count_mono {p = but_not p all} {q = removed p k} n (λ i b h. still i h))
  where
    still : (i : ℕ) → but_not p all i ≡ true → removed p k i ≡ true
    still i h =
        let parts = both_parts true (p i) (not (all i)) h in
        rw (ne_eqb i k (λ (e : i ≡ k). false≢true (sym (not-true (all i) parts.1) ∙ ap all e ∙ there)), parts.0)

-- as many words
pub room_kept : {entry : ℕ → Entry} {n depth level a b : ℕ} → a ≡ b → Roomy entry n depth level b → Roomy entry n depth level a
room_kept same room = rw same room

-- the problem is asked again, after the words were worked in
pub problem_kept : {P : Problem} {all : Set} {depth level : ℕ} {before after : List ℕ} → ProblemAsked P all depth level before → length after ≡ length before
    → Remembers P.entry depth level after → ProblemAsked P all depth level after
problem_kept asked same memory = record {
  promising = asked.promising;
  deep = asked.deep;
  all_asking = asked.all_asking;
  room = room_kept same asked.room;
  memory = memory;
}

-- its needs and limits are few and below n
pub small_of : {P : Problem} {promises : ℕ → Bool} {depth : ℕ} → Promising P promises depth → Small P
small_of all = record { few = all.few; below = all.below }

-- a solution is to be selected from a list, after the words were worked in
pub select_kept : {P : Problem} {all : Set} {k depth level : ℕ} {before after : List ℕ} → ProblemAsked P all depth level before → length after ≡ length before
    → Remembers P.entry depth level after → Lists P k level after → SelectAsked P all k depth level after
select_kept asked same memory lists = record {
  problem = small_of asked.promising;
  all_asking = asked.all_asking;
  deep = asked.deep;
  room = room_kept same asked.room;
  memory = memory;
  lists = lists;
}

-- a set is to be grown by another, after the words were worked in
pub grow_asked : {P : Problem} {all low free : Set} {depth level : ℕ} {before after : List ℕ} → ProblemAsked P all depth level before → Within (member low) (asking P)
    → Within (member free) (asking P) → FitIfAny P low → length after ≡ length before → Remembers P.entry depth level after → GrowAsked P low free depth level after
grow_asked {low = low} {free = free} asked below beside fit same memory = record {
  promising = promising_of asked.promising (either_made (member low) (member free) below beside);
  fit = fit;
  deep = asked.deep;
  room = room_kept same asked.room;
  memory = memory;
}

-- what is left of a list behind a place
pub length_behind : (l : List ℕ) (a : ℕ) → length (take (length l - a) (drop a l)) ≡ length l - a
length_behind l a = length-take-le (length l - a) (drop a l) (rw length-drop (le_refl (length l - a)))

-- the question of an entry is about its own relation
pub own_solution : {entry : ℕ → Entry} {e : Entry} {w : Wants} {q : Question} → QuestionOf e w q
    → Solution entry (member q.yes) (member q.no) q.relation → Solution entry (member w.yes) (member w.no) e.name
own_solution own solution = rw (own.yes, own.no, own.relation) at solution

pub own_no_solution : {entry : ℕ → Entry} {e : Entry} {w : Wants} {q : Question} → QuestionOf e w q
    → (Solution entry (member q.yes) (member q.no) q.relation → ⊥) → Solution entry (member w.yes) (member w.no) e.name → ⊥
own_no_solution own none = rw (own.yes, own.no, own.relation) at none

pub own_asking : {e : Entry} {w : Wants} {q : Question} → QuestionOf e w q → (i : ℕ) → counting w e i ≡ true
    → speaks (member q.yes) (member q.no) e i q.relation ≡ true
own_asking {e} own i counts = rw (own.yes, own.no, own.relation, eq-eqb e.name e.name refl) counts

-- promises that cannot be kept
pub promised_unfit : (P : Problem) (promises : Set) → (Feasible P.entry P.yes P.no (member promises) → ⊥) → Fit P (code promises) → ⊥
unfolding member
promised_unfit P promises none fit = none fit.feasible

pub within_same : {p q r : ℕ → Bool} → q ≡ r → Within p q → Within p r
within_same is within i h = sym (ap (λ (s : ℕ → Bool). s i) is) ∙ within i h
