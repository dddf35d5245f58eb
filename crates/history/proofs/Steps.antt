-- The steps on a draft by value are those of its history: a saved length is enough, since what was saved are the first entries.
use mathlib.Core.Path.{◌≡◌, refl, sym, ap, ◌∙◌}
use mathlib.Core.Logic.{by_cases}
use mathlib.Core.Bool.{Bool, true, false, ◌||◌}
use mathlib.Core.List.{List, [], ◌∷◌, ◌++◌}
use Prim.Native.Nat.{ℕ, ◌<◌, ◌≤◌}
use native.Mathlib.Decide.{dec_lt}
use native.Mathlib.Omega.{arith}
use lib.Dec.{eqb, leb, ltb}
use lib.ListN.{length, get_or, set, length-append, length-set, get_or-append, get_or-eq_default}
use lib.Seq.{get_or-append_seam, get_or-set_same, get_or-set_other}
use borrow.Author.Tests.{ltb-true, ltb-false, leb-true, leb-false, lt-ltb, le-ltb, eqb-true, eqb-false, ne_eqb}
use Rattle.std.specs.Prelude.{Option, None, Some, is_none, if◌then◌else◌}
use Rattle.faults.specs.declared.Fault.TheVariants.{Draft}
use Rattle.faults.specs.Verdict.{accepted, refuse_if}
use Rattle.faults.proofs.Each.{not_refused, neither}
use Rattle.history.specs.declared.Draft.{Draft as DraftValue}
use Rattle.history.specs.declared.Step.{Step}
use Rattle.history.specs.declared.Step.TheVariants.{Add, Save, Back}
use Rattle.history.specs.History.{State, remembered, restored, taken, verdict}
use Rattle.history.specs.Shown.{listed, length_of, draft_of}
use Rattle.history.specs.Stepping.{leading_words, up_to, own_verdict, stepped}
use Rattle.history.proofs.Lists.{length_listed, get_d_listed, is_listed}
use Rattle.history.proofs.Kept.{First, first_at, Kept, accepted_entry}

abbrev made : List ℕ → List ℕ → ℕ → DraftValue
made entries saved count = record { entries = entries; saved = saved; count = count }

-- two drafts are the same by their parts
pub same_draft : {a b : DraftValue} → a.entries ≡ b.entries → a.saved ≡ b.saved → a.count ≡ b.count → a ≡ b
same_draft {a} {b} e s c =
    let h : made a.entries a.saved a.count ≡ made b.entries b.saved b.count = rw (e, s, c) in h

-- one entry more
appended : (l : List ℕ) (entry i : ℕ) → length l < 64 → i < 64
    → get_or (set (listed (λ j. get_or l j 0) 64) (length l) entry) i 0 ≡ get_or (l ++ (entry ∷ [])) i 0
appended l entry i room h =
    let words = listed (λ j. get_or l j 0) 64 in
    let long = length_listed (λ j. get_or l j 0) 64 in
    by_cases (dec_lt i (length l))
    (λ (less : i < length l).
    get_or-set_other words (length l) i entry 0 (omega arith)
    ∙ get_d_listed (λ j. get_or l j 0) 64 i h
    ∙ sym (get_or-append l (entry ∷ []) 0 i less))
    (λ (more : ¬ (i < length l)).
    by_cases (dec_lt (length l) i)
    (λ (past : length l < i).
    get_or-set_other words (length l) i entry 0 (omega arith)
    ∙ get_d_listed (λ j. get_or l j 0) 64 i h
    ∙ get_or-eq_default l 0 (omega arith)
    ∙ sym (get_or-eq_default (l ++ (entry ∷ [])) 0 (omega (arith, length-append l (entry ∷ [])))))
    (λ (not-past : ¬ (length l < i)).
    let at : i ≡ length l = omega arith in
    rw (at, get_or-append_seam l entry [] 0) (get_or-set_same words (length l) entry 0 (omega (arith, long)))))

add_shown : (entry : ℕ) (s : State) → length s.entries < 64 → stepped (Add entry) (draft_of s) ≡ draft_of (taken (Add entry) s)
unfolding draft_of
add_shown entry s room =
    same_draft
    (is_listed (set (listed (λ j. get_or s.entries j 0) 64) (length s.entries) entry) (λ i. get_or (s.entries ++ (entry ∷ [])) i 0) 64
    (length-set (listed (λ j. get_or s.entries j 0) 64) (length s.entries) entry ∙ length_listed (λ j. get_or s.entries j 0) 64)
    (λ i h. appended s.entries entry i room h))
    refl
    (sym (length-append s.entries (entry ∷ [])))

-- a name's length set
named : (saved : ℕ → Option (List ℕ)) (l : List ℕ) (name n : ℕ) → name < 16 → n < 16
    → get_or (set (listed (λ m. length_of (saved m)) 16) name (length l)) n 0 ≡ length_of (if eqb n name then Some l else saved n)
named saved l name n inside h = by_test (eqb n name) refl
  where
    by_test : (b : Bool) → eqb n name ≡ b
        → get_or (set (listed (λ m. length_of (saved m)) 16) name (length l)) n 0 ≡ length_of (if b then Some l else saved n)
    by_test true is =
        rw (eqb-true n name is)
        (get_or-set_same (listed (λ m. length_of (saved m)) 16) name (length l) 0 (omega (arith, length_listed (λ m. length_of (saved m)) 16)))
    by_test false is =
        get_or-set_other (listed (λ m. length_of (saved m)) 16) name n (length l) 0 (eqb-false n name is) ∙ get_d_listed (λ m. length_of (saved m)) 16 n h

save_shown : (name : ℕ) (s : State) → name < 16 → stepped (Save name) (draft_of s) ≡ draft_of (taken (Save name) s)
unfolding draft_of
save_shown name s inside =
    same_draft refl
    (is_listed (set (listed (λ m. length_of (s.saved m)) 16) name (length s.entries)) (λ n. length_of (if eqb n name then Some s.entries else s.saved n)) 16
    (length-set (listed (λ m. length_of (s.saved m)) 16) name (length s.entries) ∙ length_listed (λ m. length_of (s.saved m)) 16)
    (λ n h. named s.saved s.entries name n inside h))
    refl

-- the words of a copy: the first words, and 0 behind them
copied : (copy l : List ℕ) → First copy l → (i : ℕ) → i < 64 → (if ltb i (length copy) then get_or (listed (λ j. get_or l j 0) 64) i 0 else 0) ≡ get_or copy i 0
copied copy l f i h = by_test (ltb i (length copy)) refl
  where
    by_test : (b : Bool) → ltb i (length copy) ≡ b → (if b then get_or (listed (λ j. get_or l j 0) 64) i 0 else 0) ≡ get_or copy i 0
    by_test true is = get_d_listed (λ j. get_or l j 0) 64 i h ∙ sym (first_at f i (ltb-true i (length copy) is))
    by_test false is = sym (get_or-eq_default copy 0 (ltb-false i (length copy) is))

-- a saved length with more entries is forgotten, as the copy is
forgotten : (many : ℕ) (o : Option (List ℕ)) → many ≤ 64 → (if ltb many (length_of o) then 255 else length_of o) ≡ length_of (remembered many o)
forgotten many None few = rw (lt-ltb many 255 (omega arith))
forgotten many (Some copy) few = by_test (leb (length copy) many) refl
  where
    by_test : (b : Bool) → leb (length copy) many ≡ b → (if ltb many (length copy) then 255 else length copy) ≡ length_of (if b then Some copy else None)
    by_test true is = rw (le-ltb many (length copy) (leb-true (length copy) many is))
    by_test false is = rw (lt-ltb many (length copy) (leb-false (length copy) many is))

-- a saved length of a draft
pub saved_length : (s : State) (name : ℕ) → name < 16 → get_or (draft_of s).saved name 0 ≡ length_of (s.saved name)
unfolding draft_of
saved_length s name inside = get_d_listed (λ m. length_of (s.saved m)) 16 name inside

back_shown : (name : ℕ) (s : State) → Kept s → (copy : List ℕ) → s.saved name ≡ Some copy → name < 16
    → stepped (Back name) (draft_of s) ≡ draft_of (restored (Some copy) s)
unfolding draft_of
back_shown name s k copy is inside =
    let f = k.copies name copy is in
    let many : get_or (listed (λ m. length_of (s.saved m)) 16) name 0 ≡ length copy = get_d_listed (λ m. length_of (s.saved m)) 16 name inside ∙ ap length_of is in
    rw many
    (same_draft
    (is_listed (leading_words (length copy) (listed (λ j. get_or s.entries j 0) 64)) (λ i. get_or copy i 0) 64 (length_listed _ 64)
    (λ i h. get_d_listed _ 64 i h ∙ copied copy s.entries f i h))
    (is_listed (up_to (length copy) (listed (λ m. length_of (s.saved m)) 16)) (λ n. length_of (remembered (length copy) (s.saved n))) 16 (length_listed _ 16)
    (λ n h.
    get_d_listed _ 16 n h
    ∙ ap (λ (x : ℕ). if ltb (length copy) x then 255 else x) (get_d_listed (λ m. length_of (s.saved m)) 16 n h)
    ∙ forgotten (length copy) (s.saved n) (omega (arith, f.short, k.few))))
    refl)

-- a name that is not saved has 255, which is no length
unsaved : (o : Option (List ℕ)) → ((copy : List ℕ) → o ≡ Some copy → length copy ≤ 64) → eqb (length_of o) 255 ≡ is_none o
unsaved None few = refl
unsaved (Some copy) few = let short = few copy refl in ne_eqb (length copy) 255 (λ e. omega (arith, e, short))

-- the step is refused for the same
pub own_verdict_is : (step : Step) (s : State) → Kept s → own_verdict step (draft_of s) ≡ verdict step s
unfolding draft_of
own_verdict_is (Add entry) s k = refl
own_verdict_is (Save name) s k = refl
own_verdict_is (Back name) s k = by_test (ltb 15 name) refl
  where
    by_test : (b : Bool) → ltb 15 name ≡ b
        → refuse_if (b || eqb (get_or (listed (λ m. length_of (s.saved m)) 16) name 0) 255) Draft ≡ refuse_if (b || is_none (s.saved name)) Draft
    by_test true is = refl
    by_test false is =
        rw (
          get_d_listed (λ m. length_of (s.saved m)) 16 name (omega (arith, ltb-false 15 name is)),
          unsaved (s.saved name) (λ copy there. omega (arith, (k.copies name copy there).short, k.few)),
        )

back_taken : (name : ℕ) (s : State) → Kept s → (o : Option (List ℕ)) → s.saved name ≡ o → ltb 15 name || is_none o ≡ false
    → stepped (Back name) (draft_of s) ≡ draft_of (restored o s)
back_taken name s k None is ok = let z : ◌≡◌ {A = ℕ} 0 1 = let e = (neither (ltb 15 name) true ok).1 in cc in absurd (omega arith)
back_taken name s k (Some copy) is ok =
    back_shown name s k copy is (omega (arith, ltb-false 15 name (neither (ltb 15 name) false ok).0))

-- and what it makes of the draft is what the history has
pub own_step : (step : Step) (s : State) → Kept s → verdict step s ≡ accepted → stepped step (draft_of s) ≡ draft_of (taken step s)
own_step (Add entry) s k ok = add_shown entry s (accepted_entry entry s ok).0
own_step (Save name) s k ok = save_shown name s (omega (arith, ltb-false 15 name (not_refused (ltb 15 name) Draft ok)))
own_step (Back name) s k ok = back_taken name s k (s.saved name) refl (not_refused (ltb 15 name || is_none (s.saved name)) Draft ok)
