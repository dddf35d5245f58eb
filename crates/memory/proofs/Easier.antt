-- What the answer to one question tells of another. Fewer wants are easier to meet: a world that is as a question wants is also as any other
-- wants whose entries are among those of the first. So where a question has no world, none has that wants all that it wants.
use Rattle.std.proofs.Common.{◌≡◌, ℕ, Bool, true, false, not, ◌&&◌, ◌||◌, eqb, ◌⊎◌, Some, None, refl, ap, inl, inr, ⊎_elim, eq-eqb, ne_eqb}
use mathlib.Core.Bool.{false≢true}
use mathlib.Core.Logic.{by_cases}
use native.Mathlib.Decide.{ℕ_discrete}
use Rattle.sets.specs.Set.{member, nothing, added, removed, either, but_not, Within}
use Rattle.table.specs.declared.entry.Entry.{Entry}
use Rattle.tableau.specs.Wants.{wanted, Sat}
use Rattle.memory.specs.declared.learnt.Ruled.{Ruled}
use Rattle.memory.specs.Learnt.{SatWith, MissingIs}

-- a world that is as many entries want is as any of them want
pub fewer_wants : {entry : ℕ → Entry} {ts fs ts' fs' : ℕ → Bool} → Within ts' ts → Within fs' fs → Sat entry ts fs → Sat entry ts' fs'
fewer_wants {ts = ts} {fs} {ts'} {fs'} in-ts in-fs sat = record {
  structure = sat.structure;
  world = sat.world;
  inside = sat.inside;
  meets = record { as_wanted = λ b i w. sat.meets.as_wanted b i (among b i w) };
}
  where
    among : (b : Bool) (i : ℕ) → wanted ts' fs' b i ≡ true → wanted ts fs b i ≡ true
    among true = in-ts
    among false = in-fs

-- ---- what one set lacks of another

but_or : (a b : Bool) → a ≡ true → (a && not b) || b ≡ true
but_or true true h = refl
but_or true false h = refl
but_or false b h = absurd (false≢true h)

-- with all that it lacks of another, a set has all of that
pub lacking_added : (p q : ℕ → Bool) → Within p (either (but_not p q) q)
lacking_added p q i = but_or (p i) (q i)

-- with nothing besides it is itself
pub nothing_added : {more : ℕ → Bool} (q : ℕ → Bool) → more ≡ nothing → Within (either more q) q
nothing_added q none i = rw none (λ h. h)

-- where it lacks nothing it has all
pub nothing_lacking : (p q : ℕ → Bool) → but_not p q ≡ nothing → Within p q
nothing_lacking p q none i h = nothing_added q none i (lacking_added p q i h)

-- with others, of which only i is one, it has no more than with i
pub one_added : (more q : ℕ → Bool) (i : ℕ) → removed more i ≡ nothing → Within (either more q) (added q i)
one_added more q i only j =
    by_cases (ℕ_discrete j i) (λ (e : j ≡ i). λ h. rw (eq-eqb j i e) refl)
    (λ (apart : j ≡ i → ⊥).
    let gone : not (eqb j i) && more j ≡ false = ap (λ (p : ℕ → Bool). p j) only in
    let not_more : more j ≡ false = rw (ne_eqb j i apart) at gone in
    rw (ne_eqb j i apart, not_more) (λ h. h))

added_cases : (p : ℕ → Bool) (i j : ℕ) → added p i j ≡ true → (j ≡ i) ⊎ (p j ≡ true)
added_cases p i j h = by_cases (ℕ_discrete j i) (λ (e : j ≡ i). inl e) (λ (apart : j ≡ i → ⊥). inr (rw (ne_eqb j i apart) at h))

-- ---- what is known of a question, with more

-- a question without a world, whose wants are all had but for some of those wanted true, or false
pub lacks_true : {entry : ℕ → Entry} {more : ℕ → Bool} (ts fs ts' fs' : ℕ → Bool) → more ≡ but_not ts' ts → but_not fs' fs ≡ nothing → (Sat entry ts' fs' → ⊥)
    → SatWith entry ts fs more true → ⊥
lacks_true ts fs ts' fs' is none no_World sat = no_World (fewer_wants (rw is (lacking_added ts' ts)) (nothing_lacking fs' fs none) sat)

pub lacks_false : {entry : ℕ → Entry} {more : ℕ → Bool} (ts fs ts' fs' : ℕ → Bool) → more ≡ but_not fs' fs → but_not ts' ts ≡ nothing → (Sat entry ts' fs' → ⊥)
    → SatWith entry ts fs more false → ⊥
lacks_false ts fs ts' fs' is none no_World sat = no_World (fewer_wants (nothing_lacking ts' ts none) (rw is (lacking_added fs' fs)) sat)

module _ {known : Ruled} {missing : ℕ → Bool} where
  -- nothing is missing: no world is as wanted
  pub ruled_all : (truth : Bool) → missing ≡ nothing → MissingIs known missing truth None
  ruled_all true none = record { ruled = λ entry ts fs so no_World sat. no_World (fewer_wants (nothing_added ts none) (λ k a. a) sat) }
  ruled_all false none = record { ruled = λ entry ts fs so no_World sat. no_World (fewer_wants (λ k a. a) (nothing_added fs none) sat) }

  -- only i is missing: no world makes it so
  module _ {r : Ruled} (i : ℕ) (only : removed missing i ≡ nothing) where
    pub ruled_true : member r.yes ≡ added (member known.yes) i → r.no ≡ known.no → MissingIs known missing true (Some r)
    ruled_true more same-no = record {
      ruled = λ entry ts fs so no_World. record {
        never_true = λ j h sat. ⊎_elim
            (λ (e : j ≡ i). no_World (fewer_wants (one_added missing ts i only) (λ k a. a) (rw e at sat)))
            (λ (old : member known.yes j ≡ true). so.never_true j old sat)
            (added_cases (member known.yes) i j (rw more at h));
        never_false = rw same-no so.never_false;
      };
    }

    pub ruled_false : member r.no ≡ added (member known.no) i → r.yes ≡ known.yes → MissingIs known missing false (Some r)
    ruled_false more same-yes = record {
      ruled = λ entry ts fs so no_World. record {
        never_true = rw same-yes so.never_true;
        never_false = λ j h sat. ⊎_elim
            (λ (e : j ≡ i). no_World (fewer_wants (λ k a. a) (one_added missing fs i only) (rw e at sat)))
            (λ (old : member known.no j ≡ true). so.never_false j old sat)
            (added_cases (member known.no) i j (rw more at h));
      };
    }
