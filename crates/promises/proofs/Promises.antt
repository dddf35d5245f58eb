-- The promises of a successor, one after the other. Why what they come to says neither more nor less: each part is wanted as its promise
-- asks, and whatever else comes in follows from that.
use mathlib.Core.Path.{◌≡◌, refl, sym, subst, ap, ◌∙◌}
use mathlib.Core.Logic.{⊎_elim, by_cases}
use mathlib.Core.Bool.{Bool, true, false, not, ◌&&◌, false≢true}
use Prim.Native.Nat.{ℕ, suc, ◌<◌, ◌≤◌}
use native.Mathlib.Nat.{le_trans}
use native.Mathlib.Decide.{ℕ_discrete}
use native.Mathlib.Omega.{arith}
use lib.Dec.{eqb}
use borrow.Author.Tests.{ne_eqb}
use Rattle.std.specs.Prelude.{Option, Some, None}
use Rattle.sets.specs.Set.{nothing, removed, Within}
use Rattle.table.specs.declared.entry.Entry.{Entry}
use Rattle.table.specs.Check.{uses_of}
use Rattle.table.specs.Formulas.{depth_at, depth_of}
use Rattle.table.proofs.Accepted.{depth_rule}
use Rattle.tableau.specs.Wants.{wanted, Settled}
use Rattle.tableau.specs.Counting.{bound_kind, bound}
use Rattle.tableau.specs.Search.{Problem}
use Rattle.sets.proofs.Tests.{both_parts, both_made, one_of}
use Rattle.tableau.proofs.Bounds.{bound_cases}
use Rattle.tableau.proofs.Promises.{sat_feasible}
use Rattle.wants.specs.declared.Wants.{Wants}
use Rattle.wants.specs.Outcome.{SettledW, Asked, OutcomeIs, NothingWanted}
use Rattle.promises.specs.Promise.{Held, AllIs, only_if, Promising, Partly, Promised, PromisedIs}

only_so : (b c : Bool) → only_if true b c ≡ true → c ≡ b
only_so true true h = refl
only_so true false h = absurd (false≢true h)
only_so false true h = absurd (false≢true h)
only_so false false h = refl

only_not : (b c : Bool) → only_if false b c ≡ true → ⊥
only_not true true h = false≢true h
only_not true false h = false≢true h
only_not false true h = false≢true h
only_not false false h = false≢true h

only_self : (b : Bool) → only_if true b b ≡ true
only_self true = refl
only_self false = refl

-- what is said of all that is asked is said of one of it
only_of : (asked : Bool → Bool) (Q : Bool → Type 0) → ((b : Bool) → asked b ≡ true → Q b) → (t b : Bool) → only_if (asked t) t b ≡ true → Q b
only_of asked Q all true true h = all true h
only_of asked Q all true false h = absurd (false≢true h)
only_of asked Q all false true h = absurd (false≢true h)
only_of asked Q all false false h = all false h

module _ (entry : ℕ → Entry) (n e : ℕ) (w : Wants) where
  pub held_one : (b : Bool) (r : Option Wants) → OutcomeIs entry n b e w r → AllIs entry n (only_if true b) e w r
  held_one b (Some w') taken = record {
    settled = taken.settled;
    grows = taken.grows;
    has = λ c h. rw (only_so b c h) taken.has;
    meets = λ s v m so. taken.meets s v m (so b (only_self b));
    shallow = λ d le before c i h. ⊎_elim (before c i) (λ (l : depth_at entry i ≤ depth_at entry e). le_trans l le) (taken.no_deeper c i h);
  }
  held_one b None clash = λ s v m so. clash s v m (so b (only_self b))

  pub held_none : (b : Bool) → SettledW entry n w → AllIs entry n (only_if false b) e w (Some w)
  held_none b settled = record {
    settled = settled;
    grows = λ c i h. h;
    has = λ c h. absurd (only_not b c h);
    meets = λ s v m so. m;
    shallow = λ d le before. before;
  }

  -- whether it is asked may be told in other words
  pub held_told : (b : Bool) {so is : Bool} → so ≡ is → (r : Option Wants) → AllIs entry n (only_if so b) e w r → AllIs entry n (only_if is b) e w r
  held_told b same r held = subst (λ x. AllIs entry n (only_if x b) e w r) same held

  module _ (asked : Bool → Bool) where
    -- true if that is asked, and then false if that is
    pub held_both : {u : Wants} → Held entry n (only_if (asked true) true) e w u → (r : Option Wants)
        → AllIs entry n (only_if (asked false) false) e u r → AllIs entry n asked e w r
    held_both {u} one (Some w') two = record {
      settled = two.settled;
      grows = λ c i h. two.grows c i (one.grows c i h);
      has = elim [ true ↦ λ h. two.grows true e (one.has true h) | false ↦ λ h. two.has false h ];
      meets = λ s v m so. two.meets s v (one.meets s v m (only_of asked _ so true)) (only_of asked _ so false);
      shallow = λ d le before. two.shallow d le (one.shallow d le before);
    }
    held_both one None two = λ s v m so. two s v (one.meets s v m (only_of asked _ so true)) (only_of asked _ so false)

    pub held_clash : AllIs entry n (only_if (asked true) true) e w None → AllIs entry n asked e w None
    held_clash clash = λ s v m so. clash s v m (only_of asked _ so true)

-- nothing is wanted
pub empty_settled : (entry : ℕ → Entry) (n : ℕ) → Settled entry n nothing nothing nothing
empty_settled entry n = record {
  below = elim [ true ↦ λ i h. absurd (false≢true h) | false ↦ λ i h. absurd (false≢true h) ];
  treated = elim [ true ↦ λ i h. absurd (false≢true h) | false ↦ λ i h. absurd (false≢true h) ];
  splits = λ i h. absurd (false≢true h);
  facts = λ i h. absurd (false≢true h);
}

-- a counting entry uses its first reference, and is one deeper than it
counting_uses : (b c : Bool) (k : ℕ) → k ≡ bound_kind b c → (uses_of k).first ≡ true
unfolding uses_of
counting_uses true true k is = rw is refl
counting_uses true false k is = rw is refl
counting_uses false true k is = rw is refl
counting_uses false false k is = rw is refl

pub counting_depth : (b c : Bool) (k x y : ℕ) → k ≡ bound_kind b c → depth_of x y k ≡ suc x
counting_depth true true k x y is = rw is refl
counting_depth true false k x y is = rw is refl
counting_depth false true k x y is = rw is refl
counting_depth false false k x y is = rw is refl

module _ (P : Problem) (promises : ℕ → Bool) (depth : ℕ) (all : Promising P promises depth) where
  pub named : (i : ℕ) → promises i ≡ true → eqb (P.entry i).name P.relation ≡ true
  named i h = (both_parts true (eqb (P.entry i).name P.relation) _ (all.within i h)).0

  -- a promised entry is a counting entry that is wanted
  counting_some : (i : ℕ) → promises i ≡ true → (b : Bool) × (c : Bool) × (wanted P.yes P.no b i ≡ true) × ((P.entry i).kind ≡ bound_kind b c)
  counting_some i h =
      let bounds = (both_parts true (eqb (P.entry i).name P.relation) _ (all.within i h)).1 in
      ⊎_elim
      (λ (q : bound P.yes P.no (P.entry i) i true ≡ true). let (b, want, k) = bound_cases P.yes P.no (P.entry i) i true q in (b, true, want, k))
      (λ (q : bound P.yes P.no (P.entry i) i false ≡ true). let (b, want, k) = bound_cases P.yes P.no (P.entry i) i false q in (b, false, want, k))
      (one_of (bound P.yes P.no (P.entry i) i true) _ bounds)

  pub promise_below : (i : ℕ) → promises i ≡ true → i < P.n
  promise_below i h = let (b, c, want, k) = counting_some i h in all.below b i want

  -- its part is an entry
  pub part_below : (i : ℕ) → promises i ≡ true → (P.entry i).first < P.n
  part_below i h =
      let (b, c, want, k) = counting_some i h in
      omega (arith, all.below b i want, (all.formed i (all.below b i want)).first (counting_uses b c _ k))

  -- that may be wanted besides, and is no deeper than allowed
  pub part_asked : {v : Wants} → SettledW P.entry P.n v → (i : ℕ) → promises i ≡ true → Asked P.entry P.n (P.entry i).first v
  part_asked settled i h = record { formed = all.formed; few = all.few; settled = settled; inside = part_below i h }

  part_depth : (i : ℕ) → promises i ≡ true → depth_at P.entry (P.entry i).first ≤ depth
  part_depth i h =
      let (b, c, want, k) = counting_some i h in
      omega (
        arith,
        all.shallow b i want,
        depth_rule all.formed i (all.below b i want),
        counting_depth b c _ (depth_at P.entry (P.entry i).first) (depth_at P.entry (P.entry i).second) k,
      )

  pub partly_none : {v : Wants} → NothingWanted v → Partly P promises promises depth v
  partly_none none = record {
    settled = rw (none.yes, none.no, none.pending) (empty_settled P.entry P.n);
    shallow = rw (none.yes, none.no) (elim [ true ↦ λ i h. absurd (false≢true h) | false ↦ λ i h. absurd (false≢true h) ]);
    within = λ i h. h;
    covers = λ c i h out. absurd (false≢true (sym out ∙ h));
    follows = λ s u keeps. rw (none.yes, none.no) (record { as_wanted = elim [ true ↦ λ i h. absurd (false≢true h) | false ↦ λ i h. absurd (false≢true h) ] });
  }

  module _ {rest : ℕ → Bool} {v : Wants} (part : Partly P promises rest depth v) where
    pub partly_next : {u : Wants} (i : ℕ) → rest i ≡ true
        → Held P.entry P.n (λ c. eqb (P.entry i).name P.relation && bound P.yes P.no (P.entry i) i c) (P.entry i).first v u
        → Partly P promises (removed rest i) depth u
    partly_next {u} i h held = record {
      settled = held.settled;
      shallow = held.shallow depth (part_depth i (part.within i h)) part.shallow;
      within = λ j r. part.within j (both_parts true (not (eqb j i)) (rest j) r).1;
      covers = λ c j p out bounds.
          by_cases (ℕ_discrete j i)
          (λ (e : j ≡ i). rw e (held.has c (both_made true (named i (part.within i h)) (rw e at bounds))))
          (λ (other : j ≡ i → ⊥). held.grows c _ (part.covers c j p (sym (rw (ne_eqb j i other)) ∙ out) bounds));
      follows = λ s u keeps. held.meets s u (part.follows s u keeps)
          (λ c asked. keeps c i (part.within i h) (both_parts true (eqb (P.entry i).name P.relation) _ asked).1);
    }

    pub partly_clash : (i : ℕ) → rest i ≡ true
        → AllIs P.entry P.n (λ c. eqb (P.entry i).name P.relation && bound P.yes P.no (P.entry i) i c) (P.entry i).first v None
        → PromisedIs P promises depth None
    partly_clash i h clash here =
        clash here.structure here.world (part.follows here.structure here.world here.keeps)
        (λ c asked. here.keeps c i (part.within i h) (both_parts true (eqb (P.entry i).name P.relation) _ asked).1)

    pub partly_all : rest ≡ nothing → Promised P promises depth v
    partly_all none = record {
      ready = record {
        formed = all.formed;
        few = all.few;
        settled = part.settled;
        shallow = part.shallow;
        pending_below = λ i h. let (b, want, k) = part.settled.splits i h in omega (arith, part.settled.below b i want, all.few);
      };
      sound = sat_feasible (λ c i p. part.covers c i p (ap (λ (r : ℕ → Bool). r i) none));
      complete = λ here. record {
        structure = here.structure;
        world = here.world;
        inside = here.inside;
        meets = part.follows here.structure here.world here.keeps;
      };
    }

-- fewer promises
pub promising_fewer : {P : Problem} {promises fewer : ℕ → Bool} {depth : ℕ} → Promising P promises depth → Within fewer promises → Promising P fewer depth
promising_fewer all within = record {
  formed = all.formed;
  few = all.few;
  below = all.below;
  within = λ i h. all.within i (within i h);
  shallow = all.shallow;
}
