-- What follows without a split. Why: where d is as wanted, one of its parts is as it serves; so if one is not, the other is. Where a
-- part is so at every world that is as wanted, wanting it takes none of them away.
use mathlib.Core.Path.{◌≡◌, refl, sym, ap, ◌∙◌}
use mathlib.Core.Logic.{◌⊎◌, ⊎_elim}
use mathlib.Core.Bool.{Bool, true, false, not, ◌&&◌, ◌||◌, or-true, not-not, true≢false, false≢true}
use Prim.Native.Nat.{ℕ, ◌<◌, ◌≤◌}
use native.Mathlib.Nat.{le_trans}
use native.Mathlib.Omega.{arith}
use lib.Dec.{eqb}
use borrow.Author.Tests.{not-true, eqb-true}
use Rattle.std.specs.Prelude.{Option, Some, None}
use Rattle.semantics.specs.Count.{count}
use Rattle.semantics.specs.Structure.{Structure}
use Rattle.semantics.proofs.Count.{count_mono}
use Rattle.sets.specs.Set.{member, added, removed, but_not}
use Rattle.sets.specs.Word.{Greatest}
use Rattle.table.specs.declared.entry.Entry.{Entry}
use Rattle.table.specs.Formed.{WellFormed}
use Rattle.table.specs.Formulas.{depth_at}
use Rattle.tableau.specs.Wants.{truth_at, Meets}
use Rattle.sets.proofs.Tests.{both_parts, one_of}
use Rattle.tableau.proofs.Rules.{not_rule}
use Rattle.memory.specs.declared.learnt.Ruled.{Ruled}
use Rattle.memory.specs.Learnt.{Never}
use Rattle.wants.specs.declared.Wants.{Wants}
use Rattle.wants.specs.Outcome.{wanted_w, Refuted, Asked, Taken, Lightened}
use Rattle.sets.proofs.Members.{count_removed}
use Rattle.cases.specs.World.{SatW, serving, Ready, Waiting}
use Rattle.cases.specs.Force.{Shown, RuledFor, Forced, ForcedIs}
use Rattle.cases.proofs.Splitting.{inside, first_below, second_below, part_depths, cases, light_ready, light_sound}

not_both : (b x : Bool) → x ≡ b → x ≡ not b → ⊥
not_both true x p q = true≢false (sym p ∙ q)
not_both false x p q = false≢true (sym p ∙ q)

-- a not is the other way than its part
pub not_shown : {entry : ℕ → Entry} (w : Wants) {n : ℕ} → WellFormed entry n → (b c : Bool) → not c ≡ b → (i : ℕ) → i < n → (entry i).kind ≡ 3
    → wanted_w w c (entry i).first ≡ true → Shown entry b i w
not_shown {entry} w formed b c turned i l k h s u _ m =
    let part = not_rule formed s u l (truth_at entry s u i) k refl in
    sym (not-not (truth_at entry s u i)) ∙ ap not (sym part ∙ m.as_wanted c (entry i).first h) ∙ turned

-- an entry is found in a set
pub found : {p q : ℕ → Bool} {r : Bool} (i : ℕ) → q ≡ p → r ≡ q i → r ≡ true → p i ≡ true
found i same is h = sym (ap (λ (p : ℕ → Bool). p i) same) ∙ sym is ∙ h

-- one of two values, if it is not the other
other : (b x : Bool) → (x ≡ b → ⊥) → x ≡ not b
other true true h = absurd (h refl)
other true false h = refl
other false true h = refl
other false false h = absurd (h refl)

-- A world that is as wanted and where entry i is b is as wanted with i besides: if there is none, i is not b where all is as wanted.
module _ {entry : ℕ → Entry} {yes no : ℕ → Bool} {s : Structure} {u : ℕ} (m : Meets entry s u yes no) (i : ℕ) where
  either_met : (b : Bool) (p : ℕ → Bool) → ((j : ℕ) → p j ≡ true → truth_at entry s u j ≡ b) → truth_at entry s u i ≡ b → (j : ℕ) → added p i j ≡ true → truth_at entry s u j ≡ b
  either_met b p met so j h =
      ⊎_elim (λ (e : eqb j i ≡ true). rw (eqb-true j i e) so) (λ (e : p j ≡ true). met j e) (one_of (eqb j i) (p j) h)

  also_true : truth_at entry s u i ≡ true → Meets entry s u (added yes i) no
  also_true so = record { as_wanted = elim [ true ↦ either_met true yes (m.as_wanted true) so | false ↦ m.as_wanted false ] }

  also_false : truth_at entry s u i ≡ false → Meets entry s u yes (added no i)
  also_false so = record { as_wanted = elim [ true ↦ m.as_wanted true | false ↦ either_met false no (m.as_wanted false) so ] }

pub learnt_ruled : {entry : ℕ → Entry} (w : Wants) {r : Ruled} → Never entry (member w.yes) (member w.no) r → RuledFor entry w r
learnt_ruled {entry} w known true i h s u inside m =
    other true (truth_at entry s u i) (λ so. known.never_true i h (record { structure = s; world = u; inside = inside; meets = also_true m i so }))
learnt_ruled {entry} w known false i h s u inside m =
    other false (truth_at entry s u i) (λ so. known.never_false i h (record { structure = s; world = u; inside = inside; meets = also_false m i so }))

-- what is ruled out stays so where more is wanted
pub ruled_more : {entry : ℕ → Entry} {n bound depth : ℕ} {w v : Wants} (r : Ruled) → Forced entry n w bound depth v → RuledFor entry w r → RuledFor entry v r
ruled_more r forced known b i h s u within m = known b i h s u within (forced.sound s u m)

-- the highest that is pending and not seen
pub unseen : (p seen rest : ℕ → Bool) {d : ℕ} → rest ≡ but_not p seen → Greatest rest d → (p d ≡ true) × (seen d ≡ false)
unseen p seen rest {d} is top =
    let parts = both_parts true (p d) (not (seen d)) (ap (λ (q : ℕ → Bool). q d) (sym is) ∙ top.here) in
    (parts.0, not-true (seen d) parts.1)

module _ {entry : ℕ → Entry} {n d bound depth : ℕ} {w : Wants} (at : Waiting entry n w d bound depth) where
  -- if one part is not as it serves, the other one is
  pub second_left : Shown entry (not (serving entry d)) (entry d).first w → Shown entry (serving entry d) (entry d).second w
  second_left against s u inside m =
      ⊎_elim (λ (t : truth_at entry s u (entry d).first ≡ serving entry d). absurd (not_both (serving entry d) _ t (against s u inside m)))
      (λ (t : (truth_at entry s u (entry d).first ≡ not (serving entry d)) × (truth_at entry s u (entry d).second ≡ serving entry d)). t.1)
      (cases at s u m)

  pub first_left : Shown entry (not (serving entry d)) (entry d).second w → Shown entry (serving entry d) (entry d).first w
  first_left against s u inside m =
      ⊎_elim (λ (t : truth_at entry s u (entry d).first ≡ serving entry d). t)
      (λ (t : (truth_at entry s u (entry d).first ≡ not (serving entry d)) × (truth_at entry s u (entry d).second ≡ serving entry d)).
      absurd (not_both (serving entry d) _ t.1 (against s u inside m)))
      (cases at s u m)

  module _ {i : ℕ} (part : (i ≡ (entry d).first) ⊎ (i ≡ (entry d).second)) where
    part_below : i < d
    part_below =
        ⊎_elim (λ (e : i ≡ (entry d).first). omega (arith, first_below at)) (λ (e : i ≡ (entry d).second). omega (arith, second_below at)) part

    part_flat : depth_at entry i ≤ depth
    part_flat =
        ⊎_elim (λ (e : i ≡ (entry d).first). rw e (part_depths at).0) (λ (e : i ≡ (entry d).second). rw e (part_depths at).1) part

    pub part_asked : Asked entry n i w
    part_asked = record { formed = at.ready.formed; few = at.ready.few; inside = omega (arith, part_below, inside at); settled = at.ready.settled }

    part_has : (v : Wants) (b : Bool) → wanted_w v b i ≡ true → wanted_w v b (entry d).first || wanted_w v b (entry d).second ≡ true
    part_has v b h =
        ⊎_elim (λ (e : i ≡ (entry d).first). rw (← e, h) refl) (λ (e : i ≡ (entry d).second). rw (← e, h, or-true) refl) part

    pub forced_part : Shown entry (serving entry d) i w → {v u : Wants} → Taken entry n (serving entry d) i w v → Lightened d v u → Forced entry n w bound depth u
    forced_part shown {v} {u} taken light = record {
      ready = light_ready at v u light taken.settled (part_has v (serving entry d) taken.has)
          (λ j h other. ⊎_elim (at.ready.pending_below j) (λ (l : j ≤ i). omega (arith, part_below, at.ready.pending_below d at.here)) (taken.pending_new j h))
          (λ c j h. ⊎_elim (at.ready.shallow c j) (λ (l : depth_at entry j ≤ depth_at entry i). le_trans l part_flat) (taken.no_deeper c j h));
      sound = light_sound at v u light taken.grows;
      complete = λ s x inside m. rw (light.0, light.1) (taken.meets s x m (shown s x inside m));
    }

    pub forced_clash : Shown entry (serving entry d) i w → Refuted entry (serving entry d) i w → ForcedIs entry n w bound depth None
    forced_clash shown clash s x inside m = clash s x m (shown s x inside m)

module _ {entry : ℕ → Entry} {n bound depth : ℕ} {w : Wants} where
  pub forced_none : Ready entry n w bound depth → Forced entry n w bound depth w
  forced_none ready = record { ready = ready; sound = λ s u m. m; complete = λ s u inside m. m }

  -- one step after the other
  pub forced_next : {v : Wants} → Forced entry n w bound depth v → (r : Option Wants) → ForcedIs entry n v bound depth r → ForcedIs entry n w bound depth r
  forced_next one (Some u) two = record {
    ready = two.ready;
    sound = λ s x m. one.sound s x (two.sound s x m);
    complete = λ s x inside m. two.complete s x inside (one.complete s x inside m);
  }
  forced_next one None clash = λ s x inside m. clash s x inside (one.complete s x inside m)

  -- a world that is as the one wants is as the other does
  pub forced_back : {v : Wants} → Forced entry n w bound depth v → SatW entry v → SatW entry w
  forced_back forced sat = record {
    structure = sat.structure;
    world = sat.world;
    inside = sat.inside;
    meets = forced.sound sat.structure sat.world sat.meets;
  }

  pub forced_forth : {v : Wants} → Forced entry n w bound depth v → SatW entry w → SatW entry v
  forced_forth forced sat = record {
    structure = sat.structure;
    world = sat.world;
    inside = sat.inside;
    meets = forced.complete sat.structure sat.world sat.inside sat.meets;
  }

-- one more is seen
pub unseen_fewer : (p : ℕ → Bool) {d n : ℕ} → p d ≡ false → d < n → count (λ i. not (added p d i)) n < count (λ i. not (p i)) n
unseen_fewer p {d} {n} new l =
    omega (arith, count_removed (λ i. not (p i)) n (rw new refl) l, count_mono {p = λ i. not (added p d i)} {q = removed (λ i. not (p i)) d} n (λ i b h. apart (eqb i d) (p i) h))
  where
    apart : (x y : Bool) → not (x || y) ≡ true → not x && not y ≡ true
    apart true y h = absurd (false≢true h)
    apart false y h = h
