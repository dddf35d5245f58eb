-- A core of a set that cannot be kept: members are left out as long as what is left cannot be kept either. What the loop of `core_of` knows is
-- stated so that the check's own search closes the turns of the loop: none of these goals has an answer by the name of the test.
use mathlib.Core.Path.{◌≡◌, refl}
use mathlib.Core.Logic.{by_cases}
use mathlib.Core.Bool.{Bool, true}
use mathlib.Core.List.{List}
use Prim.Native.Nat.{ℕ, ◌-◌, ◌<◌}
use native.Mathlib.Decide.{dec_lt}
use native.Mathlib.Omega.{arith}
use lib.ListN.{length, take}
use Rattle.semantics.specs.Count.{count}
use Rattle.sets.specs.declared.Set.{Set}
use Rattle.sets.specs.Set.{member, removed, either, code, Within}
use Rattle.sets.proofs.Members.{count_removed}
use Rattle.tableau.specs.Search.{Problem, Fit}
use Rattle.cases.specs.Levels.{Remembers}
use Rattle.promises.proofs.Promises.{promise_below}
use Rattle.satisfy.specs.Largest.{Unkept, CoreAsked, CoreIs}
use Rattle.satisfy.proofs.Largest.{either_right, fit_set}

-- these cannot all be kept: that was given, or a set of just these was found not to be fit
abbrev pub Clashing : Problem → (ℕ → Bool) → Type 0
Clashing P p = (Unkept P p → ⊥) → ((s : Set) → member s ≡ p → Fit P (code s)) → ⊥

clashing_unkept : (P : Problem) {p : ℕ → Bool} → Clashing P p → Unkept P p
clashing_unkept P clashing row fit within = clashing (λ none. none row fit within) (λ s e. fit_set P s fit (rw e within))

-- A core is left of `free`, which cannot be kept beside `low`; the members of `rest` are still to be tried.
pub record Shrunk (P : Problem) (low free : ℕ → Bool) (depth level : ℕ) (before : List ℕ) (core rest : ℕ → Bool) (work : List ℕ) : Type 0 where
  pub small : (i : ℕ) → free i ≡ true → i < 64
  pub within : Within core free
  pub untried : Within rest free
  pub clashing : Clashing P (either low core)
  pub as_many : length work ≡ length before
  pub same : take level work ≡ take level before
  pub memory : Remembers P.entry depth level work

module _ {P : Problem} {low free : ℕ → Bool} {depth level : ℕ} {before : List ℕ} (asked : CoreAsked P low free depth level before) where
  pub core_whole : Shrunk P low free depth level before free free before
  core_whole =
      record {
        small = λ i h. omega (arith, promise_below P (either low free) (depth - 1) asked.promising i (either_right low free i h), asked.promising.few);
        within = λ i h. h;
        untried = λ i h. h;
        clashing = λ given found. given asked.unkept;
        as_many = refl;
        same = refl;
        memory = asked.memory;
      }

  pub core_left : {core rest : ℕ → Bool} {work : List ℕ} → Shrunk P low free depth level before core rest work → CoreIs P low free core depth level before work
  core_left at = record { within = at.within; unkept = clashing_unkept P at.clashing; same = at.same; memory = at.memory }

-- what is left without some member, whichever it is, has fewer; in this form the search finds the member
pub fewer_left : (rest left : ℕ → Bool) → ((i : ℕ) → rest i ≡ true → i < 64) → (((i : ℕ) → rest i ≡ true → left ≡ removed rest i → ⊥) → ⊥) → count left 64 < count rest 64
fewer_left rest left small some =
    by_cases (dec_lt (count left 64) (count rest 64)) (λ l. l)
    (λ more. absurd (some (λ i here is. more (rw is (count_removed rest 64 here (small i here))))))
