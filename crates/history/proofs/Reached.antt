-- Which drafts some history gives: the sound ones, and no other.
use mathlib.Core.Path.{◌≡◌, refl, sym, ap, ◌∙◌}
use mathlib.Core.Logic.{◌⊎◌, inl, inr, ◌↔◌, ⊎_elim, by_cases}
use mathlib.Core.Bool.{Bool, true, false}
use mathlib.Core.List.{List, [], ◌∷◌}
use Prim.Native.Nat.{ℕ, zero, suc, ◌^◌, ◌<◌, ◌≤◌}
use native.Mathlib.Decide.{dec_lt}
use native.Mathlib.Nat.{not-suc-le-zero}
use native.Mathlib.Omega.{arith}
use lib.Dec.{eqb, leb, ltb, leb-suc-suc}
use lib.ListN.{length, get_or, take, get_or-eq_default}
use lib.Seq.{length-take-le, get_or-take, take-suc}
use borrow.Author.Tests.{eqb-true, eqb-false, le-leb, lt-leb, lt-ltb, le-ltb, ne_eqb, eq-eqb}
use Rattle.std.specs.Prelude.{Option, None, Some, if◌then◌else◌}
use Rattle.history.specs.declared.Draft.{Draft as DraftValue}
use Rattle.history.specs.declared.Step.{Step}
use Rattle.history.specs.declared.Step.TheVariants.{Add, Save, Back}
use Rattle.history.specs.History.{State, fresh, next, state}
use Rattle.history.specs.Shown.{listed, length_of, draft_of, Shows}
use Rattle.history.specs.Answered.{Given}
use Rattle.history.specs.Sound.{Sound}
use Rattle.history.proofs.Lists.{length_listed, get_d_listed, is_listed}
use Rattle.history.proofs.Kept.{Kept, kept}
use Rattle.history.proofs.Steps.{same_draft, saved_length}

-- What a history gives is sound.

word_of : (s : State) (i : ℕ) → i < 64 → get_or (draft_of s).entries i 0 ≡ get_or s.entries i 0
unfolding draft_of
word_of s i h = get_d_listed (λ j. get_or s.entries j 0) 64 i h

-- the number of entries and the entries of a draft are those of what it shows
pub shown_count : {d : DraftValue} (s : State) → Shows d s → d.count ≡ length s.entries
unfolding draft_of
shown_count s shows = sym (ap (λ (x : DraftValue). x.count) shows)

pub shown_word : {d : DraftValue} (s : State) → Shows d s → (i : ℕ) → i < 64 → get_or d.entries i 0 ≡ get_or s.entries i 0
shown_word s shows i h = sym (ap (λ (x : DraftValue). get_or x.entries i 0) shows) ∙ word_of s i h

words_behind : (s : State) (i : ℕ) → length s.entries ≤ i → get_or (draft_of s).entries i 0 ≡ 0
unfolding draft_of
words_behind s i past =
    by_cases (dec_lt i 64) (λ (h : i < 64). word_of s i h ∙ get_or-eq_default s.entries 0 past)
    (λ (over : ¬ (i < 64)).
    get_or-eq_default (listed (λ j. get_or s.entries j 0) 64) 0 (omega (arith, length_listed (λ j. get_or s.entries j 0) 64)))

length_sound : (s : State) → Kept s → (name : ℕ) (o : Option (List ℕ)) → s.saved name ≡ o → (length_of o ≡ 255) ⊎ (length_of o ≤ length s.entries)
length_sound s k name None is = inl refl
length_sound s k name (Some copy) is = inr (k.copies name copy is).short

kept_sound : (s : State) → Kept s → Sound (draft_of s)
unfolding draft_of
kept_sound s k =
    record {
      whole = record { entries = length_listed (λ j. get_or s.entries j 0) 64; saved = length_listed (λ m. length_of (s.saved m)) 16 };
      few = k.few;
      good = λ i h. rw (word_of s i (omega (arith, k.few))) (k.good i h);
      behind = λ i h. words_behind s i h;
      lengths = λ name h. rw (saved_length s name h) (length_sound s k name (s.saved name) refl);
    }

-- What is sound, a history gives: each entry is added in its turn, and the names are saved when there are as many entries as they have.

-- the names below m of this length are saved
saves : List ℕ → (many m : ℕ) → List Step → List Step
saves lengths many zero earlier = earlier
saves lengths many (suc m) earlier = if eqb (get_or lengths m 0) many then Save m ∷ saves lengths many m earlier else saves lengths many m earlier

composed : DraftValue → ℕ → List Step
composed d zero = saves d.saved 0 16 []
composed d (suc n) = saves d.saved (suc n) 16 (Add (get_or d.entries n 0) ∷ composed d n)

-- what is saved under a name, if it is already
copy_of : DraftValue → ℕ → Bool → Option (List ℕ)
copy_of d name there = if there then Some (take (get_or d.saved name 0) d.entries) else None

-- n entries are there, and the names below m that have n entries are saved
record Composing (d : DraftValue) (n m : ℕ) (s : State) : Type 0 where
  entries : s.entries ≡ take n d.entries
  done : (name : ℕ) → name < m → s.saved name ≡ copy_of d name (leb (get_or d.saved name 0) n)
  rest : (name : ℕ) → m ≤ name → name < 16 → s.saved name ≡ copy_of d name (ltb (get_or d.saved name 0) n)

saving : (d : DraftValue) (n m : ℕ) (s : State) → m < 16 → Composing d n m s → get_or d.saved m 0 ≡ n → Composing d n (suc m) (next (Save m) s)
unfolding copy_of
saving d n m s small c long =
    rw (le-ltb 15 m (omega arith))
    (record {
      entries = c.entries;
      done =
          λ name h.
          by_cases (dec_lt name m)
          (λ (less : name < m). rw (ne_eqb name m (omega arith)) (c.done name less))
          (λ (g : ¬ (name < m)).
          let at : name ≡ m = omega arith in
          rw (at, eq-eqb m m refl, long, le-leb n n (omega arith), c.entries));
      rest = λ name h small'. rw (ne_eqb name m (omega arith)) (c.rest name (omega arith) small');
    })

passing : (d : DraftValue) (n m : ℕ) (s : State) → m < 16 → Composing d n m s → (get_or d.saved m 0 ≡ n → ⊥) → Composing d n (suc m) s
passing d n m s small c other =
    record {
      entries = c.entries;
      done =
          λ name h.
          by_cases (dec_lt name m) (λ (less : name < m). c.done name less)
          (λ (g : ¬ (name < m)).
          let at : name ≡ m = omega arith in
          rw at (c.rest m (omega arith) small ∙ ap (copy_of d m) (strict (get_or d.saved m 0) n other)));
      rest = λ name h inside. c.rest name (omega arith) inside;
    }
  where
    strict : (a b : ℕ) → (a ≡ b → ⊥) → ltb a b ≡ leb a b
    strict a b ne =
        by_cases (dec_lt a b) (λ (l : a < b). lt-ltb a b l ∙ sym (le-leb a b (omega arith)))
        (λ (g : ¬ (a < b)). le-ltb a b (omega arith) ∙ sym (lt-leb a b (omega (arith, ne))))

one_name : (d : DraftValue) (n m : ℕ) (steps : List Step) → m < 16 → Composing d n m (state steps)
    → (b : Bool) → eqb (get_or d.saved m 0) n ≡ b → Composing d n (suc m) (state (if b then Save m ∷ steps else steps))
unfolding state
one_name d n m steps small c true is = saving d n m (state steps) small c (eqb-true (get_or d.saved m 0) n is)
one_name d n m steps small c false is = passing d n m (state steps) small c (eqb-false (get_or d.saved m 0) n is)

all_names : (d : DraftValue) (n m : ℕ) (earlier : List Step) → m ≤ 16 → Composing d n 0 (state earlier) → Composing d n m (state (saves d.saved n m earlier))
unfolding saves
all_names d n zero earlier small c = c
all_names d n (suc m) earlier small c =
    one_name d n m (saves d.saved n m earlier) (omega arith) (all_names d n m earlier (omega arith) c) (eqb (get_or d.saved m 0) n) refl

-- one entry more
adding : (d : DraftValue) → Sound d → (n : ℕ) (s : State) → n < d.count → Composing d n 16 s → Composing d (suc n) 0 (next (Add (get_or d.entries n 0)) s)
adding d sound n s inside c =
    let long : length s.entries ≡ n = ap length c.entries ∙ length-take-le n d.entries (omega (arith, sound.whole.entries, sound.few)) in
    rw (long, lt-leb 64 n (omega (arith, sound.few)), sound.good n inside)
    (record {
      entries = rw c.entries (sym (take-suc d.entries n 0 (omega (arith, sound.whole.entries, sound.few))));
      done = λ name h. absurd (not-suc-le-zero h);
      rest = λ name h inside'. c.done name inside' ∙ ap (copy_of d name) (sym (leb-suc-suc (get_or d.saved name 0) n));
    })

nothing_composed : (d : DraftValue) → Composing d 0 0 fresh
unfolding copy_of
nothing_composed d =
    record {
      entries = refl;
      done = λ name h. absurd (not-suc-le-zero h);
      rest = λ name h inside. rw (le-ltb (get_or d.saved name 0) 0 (omega arith));
    }

all_composed : (d : DraftValue) → Sound d → (n : ℕ) → n ≤ d.count → Composing d n 16 (state (composed d n))
unfolding composed state
all_composed d sound zero h = all_names d 0 16 [] (omega arith) (nothing_composed d)
all_composed d sound (suc n) h =
    all_names d (suc n) 16 (Add (get_or d.entries n 0) ∷ composed d n) (omega arith)
    (adding d sound n (state (composed d n)) h (all_composed d sound n (omega arith)))

-- a saved length is that of the copy
copy_length : (d : DraftValue) → Sound d → (name : ℕ) → name < 16 → get_or d.saved name 0 ≡ length_of (copy_of d name (leb (get_or d.saved name 0) d.count))
unfolding copy_of
copy_length d sound name h =
    ⊎_elim
    (λ (e : get_or d.saved name 0 ≡ 255). rw (e, lt-leb 255 d.count (omega (arith, sound.few))))
    (λ (l : get_or d.saved name 0 ≤ d.count).
    rw (le-leb (get_or d.saved name 0) d.count l)
    (sym (length-take-le (get_or d.saved name 0) d.entries (omega (arith, sound.few, sound.whole.entries)))))
    (sound.lengths name h)

composed_shows : (d : DraftValue) → Sound d → (s : State) → Composing d d.count 16 s → Shows d s
unfolding draft_of
composed_shows d sound s c =
    let long : length (take d.count d.entries) ≡ d.count = length-take-le d.count d.entries (omega (arith, sound.whole.entries, sound.few)) in
    same_draft
    (sym (is_listed d.entries (λ i. get_or s.entries i 0) 64 sound.whole.entries
    (λ i h.
    rw c.entries
    (by_cases (dec_lt i d.count) (λ (l : i < d.count). sym (get_or-take d.count d.entries i 0 l))
    (λ (g : ¬ (i < d.count)). sound.behind i (omega arith) ∙ sym (get_or-eq_default (take d.count d.entries) 0 (omega (arith, long))))))))
    (sym (is_listed d.saved (λ name. length_of (s.saved name)) 16 sound.whole.saved
    (λ name h. copy_length d sound name h ∙ ap length_of (sym (c.done name h)))))
    (ap length c.entries ∙ long)

sound_shown : (d : DraftValue) → Sound d → Shows d (state (composed d d.count))
sound_shown d sound = composed_shows d sound (state (composed d d.count)) (all_composed d sound d.count (omega arith))

-- exactly the sound drafts are given
pub given_sound : (d : DraftValue) → Given Shows d ↔ Sound d
given_sound d = (
  λ given. rw (sym given.1) (kept_sound (state given.0) (kept given.0)),
  λ sound. (composed d d.count, sound_shown d sound),
)

-- The history that gives a draft asks for nothing that the calls cannot take: an entry has 32 bits, a name is one of the 16.
abbrev pub Asks : List Step → Type 0
Asks [] = Unit {0}
Asks (Add entry ∷ earlier) = (entry < 2 ^ 32) × Asks earlier
Asks (Save name ∷ earlier) = (name < 16) × Asks earlier
Asks (Back name ∷ earlier) = (name < 16) × Asks earlier

saves_asked : (lengths : List ℕ) (many m : ℕ) (earlier : List Step) → m ≤ 16 → Asks earlier → Asks (saves lengths many m earlier)
unfolding saves
saves_asked lengths many zero earlier small asks = asks
saves_asked lengths many (suc m) earlier small asks =
    by_test (eqb (get_or lengths m 0) many) (saves lengths many m earlier) (saves_asked lengths many m earlier (omega arith) asks)
  where
    by_test : (b : Bool) (steps : List Step) → Asks steps → Asks (if b then Save m ∷ steps else steps)
    by_test true steps asked = (small, asked)
    by_test false steps asked = asked

composed_asks : (d : DraftValue) → ((i : ℕ) → get_or d.entries i 0 < 2 ^ 32) → (n : ℕ) → Asks (composed d n)
unfolding composed
composed_asks d fits zero = saves_asked d.saved 0 16 [] (omega arith) (tt {0})
composed_asks d fits (suc n) =
    saves_asked d.saved (suc n) 16 (Add (get_or d.entries n 0) ∷ composed d n) (omega arith) (fits n, composed_asks d fits n)

pub sound_asked : (d : DraftValue) → ((i : ℕ) → get_or d.entries i 0 < 2 ^ 32) → Sound d → (steps : List Step) × Asks steps × Shows d (state steps)
sound_asked d fits sound = (composed d d.count, composed_asks d fits d.count, sound_shown d sound)
