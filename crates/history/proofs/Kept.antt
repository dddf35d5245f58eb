-- What every history gives: at most 64 entries, each good at its place, and under each name the first of them.
use mathlib.Core.Path.{◌≡◌, refl, sym, ap, ◌∙◌}
use mathlib.Core.Logic.{⊎_elim}
use mathlib.Core.Bool.{Bool, true, false}
use mathlib.Core.List.{List, [], ◌∷◌, ◌++◌}
use Prim.Native.Nat.{ℕ, suc, ◌<◌, ◌≤◌}
use native.Mathlib.Nat.{not-suc-le-zero, eq-or-lt_of_le}
use native.Mathlib.Omega.{arith}
use lib.Dec.{eqb, leb}
use lib.ListN.{length, get_or, take, length-append, get_or-append}
use lib.Seq.{get_or-append_seam, get_or-take, take-append-le, take-take, take-length}
use borrow.Author.Tests.{leb-true, leb-false}
use Rattle.std.specs.Prelude.{Option, None, Some, if◌then◌else◌, Ok, Err}
use Rattle.faults.specs.declared.Fault.TheVariants.{TableLength}
use Rattle.faults.specs.Verdict.{Verdict, accepted, refuse_if}
use Rattle.faults.proofs.Each.{both_accepted, not_refused}
use Rattle.table.specs.Entry.{entry_of}
use Rattle.table.specs.Check.{entry_verdict}
use Rattle.history.specs.declared.Step.{Step}
use Rattle.history.specs.declared.Step.TheVariants.{Add, Save, Back}
use Rattle.history.specs.History.{State, fresh, remembered, restored, taken, verdict, unless, next, state}

-- the first entries of a list
pub record First (copy entries : List ℕ) : Type 0 where
  pub short : length copy ≤ length entries
  pub same : copy ≡ take (length copy) entries

pub record Kept (s : State) : Type 0 where
  pub few : length s.entries ≤ 64
  pub good : (i : ℕ) → i < length s.entries → entry_verdict (entry_of (get_or s.entries i 0)) i ≡ accepted
  pub copies : (name : ℕ) (copy : List ℕ) → s.saved name ≡ Some copy → First copy s.entries

first_all : (l : List ℕ) → First l l
first_all l = record { short = omega arith; same = sym (take-length l) }

first_more : (copy l more : List ℕ) → First copy l → First copy (l ++ more)
first_more copy l more f =
    record {
      short = omega (arith, length-append l more, f.short);
      same = f.same ∙ sym (take-append-le (length copy) l more f.short);
    }

first_first : (copy other l : List ℕ) → First copy l → First other l → length copy ≤ length other → First copy other
first_first copy other l f g less =
    record {
      short = less;
      same = f.same ∙ sym (take-take (length copy) (length other) l less) ∙ ap (take (length copy)) (sym g.same);
    }

pub first_at : {copy l : List ℕ} → First copy l → (i : ℕ) → i < length copy → get_or copy i 0 ≡ get_or l i 0
first_at {copy} {l} f i h = ap (λ (x : List ℕ). get_or x i 0) f.same ∙ get_or-take (length copy) l i 0 h

-- a 65th entry is refused, and so is a bad one
pub accepted_entry : (entry : ℕ) (s : State) → verdict (Add entry) s ≡ accepted
    → (length s.entries < 64) × (entry_verdict (entry_of entry) (length s.entries) ≡ accepted)
accepted_entry entry s ok =
    let both = both_accepted (refuse_if (leb 64 (length s.entries)) TableLength) (entry_verdict (entry_of entry) (length s.entries)) ok in
    (leb-false 64 (length s.entries) (not_refused (leb 64 (length s.entries)) TableLength both.0), both.1)

added : (entry : ℕ) (s : State) → Kept s → verdict (Add entry) s ≡ accepted → Kept (taken (Add entry) s)
added entry s k ok =
    let (room, fits) = accepted_entry entry s ok in
    record {
      few = omega (arith, length-append s.entries (entry ∷ []));
      good =
          λ i h.
          ⊎_elim
          (λ (e : suc i ≡ suc (length s.entries)).
          let here : i ≡ length s.entries = omega arith in
          rw (here, get_or-append_seam s.entries entry [] 0) fits)
          (λ (less : suc i < suc (length s.entries)).
          let inside : i < length s.entries = omega arith in
          rw (get_or-append s.entries (entry ∷ []) 0 i inside) (k.good i inside))
          (eq-or-lt_of_le (omega (arith, length-append s.entries (entry ∷ []), h)));
      copies = λ name copy is. first_more copy s.entries (entry ∷ []) (k.copies name copy is);
    }

saved_copy : (s : State) → Kept s → (name n : ℕ) (copy : List ℕ) (b : Bool) → (if b then Some s.entries else s.saved n) ≡ Some copy → First copy s.entries
saved_copy s k name n copy true is = let e : s.entries ≡ copy = cc in rw (sym e) (first_all s.entries)
saved_copy s k name n copy false is = k.copies n copy is

-- what is remembered was there, and is no longer than that
left_copy : (many : ℕ) (o : Option (List ℕ)) (copy : List ℕ) → remembered many o ≡ Some copy → (o ≡ Some copy) × (length copy ≤ many)
left_copy many None copy is = let z : ◌≡◌ {A = ℕ} 0 1 = cc in absurd (omega arith)
left_copy many (Some other) copy is = by_test (leb (length other) many) refl is
  where
    by_test : (b : Bool) → leb (length other) many ≡ b → (if b then Some other else None) ≡ Some copy → (Some other ≡ Some copy) × (length copy ≤ many)
    by_test true short is' = let e : other ≡ copy = cc in (is', rw (sym e) (leb-true (length other) many short))
    by_test false long is' = let z : ◌≡◌ {A = ℕ} 0 1 = cc in absurd (omega arith)

came_back : (s : State) → Kept s → (name : ℕ) (o : Option (List ℕ)) → s.saved name ≡ o → Kept (restored o s)
came_back s k name None is = k
came_back s k name (Some copy) is =
    let f = k.copies name copy is in
    record {
      few = omega (arith, f.short, k.few);
      good = λ i h. rw (first_at f i h) (k.good i (omega (arith, f.short)));
      copies =
          λ n other there.
          let was = left_copy (length copy) (s.saved n) other there in
          first_first other copy s.entries (k.copies n other was.0) f was.1;
    }

kept_taken : (step : Step) (s : State) → Kept s → verdict step s ≡ accepted → Kept (taken step s)
kept_taken (Add entry) s k ok = added entry s k ok
kept_taken (Save name) s k ok = record { few = k.few; good = k.good; copies = λ n copy is. saved_copy s k name n copy (eqb n name) is }
kept_taken (Back name) s k ok = came_back s k name (s.saved name) refl

kept_unless : (v : Verdict) (a b : State) → (v ≡ accepted → Kept a) → Kept b → Kept (unless v a b)
kept_unless (Ok tt) a b next now = next refl
kept_unless (Err f) a b next now = now

kept_next : (step : Step) (s : State) → Kept s → Kept (next step s)
kept_next step s k = kept_unless (verdict step s) (taken step s) s (kept_taken step s k) k

kept_fresh : Kept fresh
kept_fresh =
    record {
      few = omega arith;
      good = λ i h. absurd (not-suc-le-zero h);
      copies = λ name copy is. let z : ◌≡◌ {A = ℕ} 0 1 = cc in absurd (omega arith);
    }

pub kept : (steps : List Step) → Kept (state steps)
unfolding state
kept [] = kept_fresh
kept (step ∷ earlier) = kept_next step (state earlier) (kept earlier)
