-- A reader of signs finds the tree that they are read as: a tree's own signs lead to it, so no two trees have the same signs; and
-- signs that lead to an end are those of a tree.
use mathlib.Core.Path.{◌≡◌, refl, sym, ap, ap₂, ◌∙◌}
use mathlib.Core.Bool.{Bool, true, false}
use mathlib.Core.List.{List, [], ◌∷◌, ◌++◌, append_assoc, append-nil}
use Prim.Native.Nat.{ℕ, suc, ◌<◌, ◌≤◌}
use native.Mathlib.Omega.{arith}
use lib.Dec.{leb}
use borrow.Author.Tests.{le-leb, lt-leb, leb-true, leb-false}
use Rattle.grammar.specs.declared.Join.{Join}
use Rattle.grammar.specs.declared.Prefix.{Prefix}
use Rattle.grammar.specs.declared.Sign.{Sign}
use Rattle.grammar.specs.Tree.{Tree, leaf, bracketed, prefixed, joined, signs, rank, binding, Grouped}
use Rattle.grammar.specs.Parser.{Frame, bracket, waiting, left, State, operand, operator, failed, rest, whole, done, closed, step, run, opens}

-- how closely an operand has to bind for the innermost frame to take it
unfoldable pub takes : List Frame → ℕ
takes [] = 0
takes (bracket ∷ fs) = 0
takes (waiting p ∷ fs) = 2
takes (left j s ∷ fs) = suc (rank j)

pub rank_low : (j : Join) → rank j < 2
rank_low Join.Or = omega arith
rank_low Join.And = omega arith

takes_low : (fs : List Frame) → takes fs ≤ 2
unfolding takes
takes_low [] = omega arith
takes_low (bracket ∷ fs) = omega arith
takes_low (waiting p ∷ fs) = omega arith
takes_low (left j s ∷ fs) = rank_low j

-- frames that take only what binds more closely are left as they are
keeps : (b : ℕ) (fs : List Frame) (t : Tree) → b < 2 → takes fs ≤ b → (rest b fs ≡ fs) × (whole b fs t ≡ t)
unfolding takes rest whole
keeps b [] t low h = (refl, refl)
keeps b (bracket ∷ fs) t low h = (refl, refl)
keeps b (waiting p ∷ fs) t low h = absurd (omega arith)
keeps b (left j s ∷ fs) t low h = let no : leb b (rank j) ≡ false = lt-leb b (rank j) h in (rw no refl, rw no refl)

-- closer frames first, then the others, is the same as all at once
twice : (b c : ℕ) (fs : List Frame) (t : Tree) → b ≤ c → (rest b (rest c fs) ≡ rest b fs) × (whole b (rest c fs) (whole c fs t) ≡ whole b fs t)
unfolding rest whole
twice b c [] t h = (refl, refl)
twice b c (bracket ∷ fs) t h = (refl, refl)
twice b c (waiting p ∷ fs) t h = twice b c fs (prefixed p t) h
twice b c (left j s ∷ fs) t h = go (leb c (rank j)) refl (twice b c fs (joined j s t) h)
  where
    go : (q : Bool) → leb c (rank j) ≡ q → (rest b (rest c fs) ≡ rest b fs) × (whole b (rest c fs) (whole c fs (joined j s t)) ≡ whole b fs (joined j s t))
        → (rest b (rest c (left j s ∷ fs)) ≡ rest b (left j s ∷ fs)) × (whole b (rest c (left j s ∷ fs)) (whole c (left j s ∷ fs) t) ≡ whole b (left j s ∷ fs) t)
    go true e below =
        let both : leb b (rank j) ≡ true = le-leb b (rank j) (omega (arith, leb-true c (rank j) e)) in
        rw (e, both) below
    go false e below = rw e (refl, refl)

pub run_append : (σ : State) (xs ys : List Sign) → run σ (xs ++ ys) ≡ run (run σ xs) ys
unfolding run
run_append σ [] ys = refl
run_append σ (x ∷ xs) ys = run_append (step σ x) xs ys

-- what the reader is at after the signs of a tree: frames and an operand that come to the same as the tree on the frames before
pub record Reached (fs : List Frame) (t : Tree) (σ : State) : Type 0 where
  pub frames : List Frame
  pub top : Tree
  pub is : σ ≡ operator frames top
  pub rests : (b : ℕ) → b ≤ binding t → rest b frames ≡ rest b fs
  pub wholes : (b : ℕ) → b ≤ binding t → whole b frames top ≡ whole b fs t

done_reached : (fs : List Frame) (t : Tree) → 2 ≡ binding t → Reached fs t (done fs t)
done_reached fs t e =
    record {
      frames = rest 2 fs;
      top = whole 2 fs t;
      is = refl;
      rests = λ b h. (twice b 2 fs t (omega arith)).0;
      wholes = λ b h. (twice b 2 fs t (omega arith)).1;
    }

-- the same state by another name
at_state : {fs : List Frame} {t : Tree} {σ τ : State} → σ ≡ τ → Reached fs t τ → Reached fs t σ
at_state e r = rw e r

-- the operand of a bracket, of a prefix, and of a sign's right side
module _ (fs : List Frame) where
  after_bracket : (t : Tree) {σ : State} → Reached (bracket ∷ fs) t σ → Reached fs (bracketed t) (step σ Sign.Close)
  unfolding rest whole step
  after_bracket t {σ} r =
      let closes : step σ Sign.Close ≡ done fs (bracketed t) = rw (r.is, r.rests 0 (omega arith), r.wholes 0 (omega arith)) refl in
      rw closes (done_reached fs (bracketed t) refl)

  after_prefix : (p : Prefix) (t : Tree) {σ : State} → 2 ≤ binding t → Reached (waiting p ∷ fs) t σ → Reached fs (prefixed p t) σ
  unfolding rest whole
  after_prefix p t low r =
      record {
        frames = r.frames;
        top = r.top;
        is = r.is;
        rests = λ b h. r.rests b (omega arith);
        wholes = λ b h. r.wholes b (omega arith);
      }

  after_left : (j : Join) (s : Tree) {σ : State} → rank j ≤ binding s → takes fs ≤ rank j → Reached fs s σ
      → step σ (Sign.Between j) ≡ operand (left j s ∷ fs)
  unfolding step
  after_left j s {σ} low h r =
      let kept = keeps (rank j) fs s (rank_low j) h in
      rw (r.is, r.rests (rank j) low, r.wholes (rank j) low, kept.0, kept.1) refl

  after_right : (j : Join) (s t : Tree) {σ : State} → rank j < binding t → Reached (left j s ∷ fs) t σ → Reached fs (joined j s t) σ
  unfolding rest whole
  after_right j s t low r =
      record {
        frames = r.frames;
        top = r.top;
        is = r.is;
        rests = λ b h. let yes : leb b (rank j) ≡ true = le-leb b (rank j) h in r.rests b (omega arith) ∙ rw yes refl;
        wholes = λ b h. let yes : leb b (rank j) ≡ true = le-leb b (rank j) h in r.wholes b (omega arith) ∙ rw yes refl;
      }

pub reaches : (t : Tree) (fs : List Frame) → Grouped t → takes fs ≤ binding t → Reached fs t (run (operand fs) (signs t))
unfolding Grouped signs run step takes
reaches (leaf l) fs g h = done_reached fs (leaf l) refl
reaches (bracketed t) fs g h =
    at_state (run_append (operand (bracket ∷ fs)) (signs t) (Sign.Close ∷ [])) (after_bracket fs t (reaches t (bracket ∷ fs) g (omega arith)))
reaches (prefixed p t) fs g h = after_prefix fs p t g.0 (reaches t (waiting p ∷ fs) g.1 g.0)
reaches (joined j s t) fs g h =
    let reached-left = reaches s fs g.2 (omega arith) in
    let reached-right = reaches t (left j s ∷ fs) g.3 g.1 in
    at_state
    (run_append (operand fs) (signs s) (Sign.Between j ∷ signs t)
    ∙ ap (λ (σ : State). run σ (signs t)) (after_left fs j s g.0 h reached-left))
    (after_right fs j s t g.1 reached-right)

-- a tree's signs lead to the tree, and to it alone
pub ends : (t : Tree) → Grouped t → (fs : List Frame) × (u : Tree) × (run (operand []) (signs t) ≡ operator fs u) × (rest 0 fs ≡ []) × (whole 0 fs u ≡ t)
unfolding rest whole takes
ends t g =
    let r = reaches t [] g (omega arith) in
    (r.frames, r.top, r.is, r.rests 0 (omega arith), r.wholes 0 (omega arith))

pub one_tree : (s t : Tree) → Grouped s → Grouped t → signs s ≡ signs t → s ≡ t
one_tree s t g h e =
    let a = ends s g in
    let b = ends t h in
    let same : operator a.0 a.1 ≡ operator b.0 b.1 = sym a.2 ∙ ap (run (operand [])) e ∙ b.2 in
    let frames : a.0 ≡ b.0 = cc in
    let tops : a.1 ≡ b.1 = cc in
    sym a.4 ∙ ap₂ (whole 0) frames tops ∙ b.4

-- The other way: the signs that a state has read.
unfoldable pub spelt : List Frame → List Sign
spelt [] = []
spelt (bracket ∷ fs) = spelt fs ++ (Sign.Open ∷ [])
spelt (waiting p ∷ fs) = spelt fs ++ (Sign.Before p ∷ [])
spelt (left j s ∷ fs) = spelt fs ++ (signs s ++ (Sign.Between j ∷ []))

-- operands are grouped, and each frame takes what the one inside it comes to
unfoldable pub Built : List Frame → Type 0
Built [] = Unit {0}
Built (bracket ∷ fs) = Built fs
Built (waiting p ∷ fs) = Built fs
Built (left j s ∷ fs) = (takes fs ≤ rank j) × (rank j ≤ binding s) × Grouped s × Built fs

-- an operand on frames that take it
pub record On (fs : List Frame) (t : Tree) : Type 0 where
  pub built : Built fs
  pub grouped : Grouped t
  pub fits : takes fs ≤ binding t

settle_spelt : (b : ℕ) (fs : List Frame) (t : Tree) → spelt (rest b fs) ++ signs (whole b fs t) ≡ spelt fs ++ signs t
unfolding rest whole spelt signs
settle_spelt b [] t = refl
settle_spelt b (bracket ∷ fs) t = refl
settle_spelt b (waiting p ∷ fs) t = settle_spelt b fs (prefixed p t) ∙ simp append_assoc
settle_spelt b (left j s ∷ fs) t = go (leb b (rank j)) refl (settle_spelt b fs (joined j s t))
  where
    go : (q : Bool) → leb b (rank j) ≡ q → spelt (rest b fs) ++ signs (whole b fs (joined j s t)) ≡ spelt fs ++ (signs s ++ (Sign.Between j ∷ signs t))
        → spelt (rest b (left j s ∷ fs)) ++ signs (whole b (left j s ∷ fs) t) ≡ spelt (left j s ∷ fs) ++ signs t
    go true e below = rw e (below ∙ simp append_assoc)
    go false e below = rw e refl

settle_on : (b : ℕ) (fs : List Frame) (t : Tree) → On fs t → On (rest b fs) (whole b fs t)
unfolding rest whole takes Built Grouped
settle_on b [] t o = o
settle_on b (bracket ∷ fs) t o = o
settle_on b (waiting p ∷ fs) t o =
    settle_on b fs (prefixed p t) (record { built = o.built; grouped = (o.fits, o.grouped); fits = takes_low fs })
settle_on b (left j s ∷ fs) t o =
    let (low, high, g, below) = o.built in
    go (leb b (rank j)) refl (settle_on b fs (joined j s t) (record { built = below; grouped = (high, o.fits, g, o.grouped); fits = low }))
  where
    go : (q : Bool) → leb b (rank j) ≡ q → On (rest b fs) (whole b fs (joined j s t)) → On (rest b (left j s ∷ fs)) (whole b (left j s ∷ fs) t)
    go true e on = rw e on
    go false e on = rw e o

-- what is left takes less, and what comes of it binds at least as closely as was asked for
settle_takes : (b : ℕ) (fs : List Frame) → takes (rest b fs) ≤ b
unfolding rest takes
settle_takes b [] = omega arith
settle_takes b (bracket ∷ fs) = omega arith
settle_takes b (waiting p ∷ fs) = settle_takes b fs
settle_takes b (left j s ∷ fs) = go (leb b (rank j)) refl (settle_takes b fs)
  where
    go : (q : Bool) → leb b (rank j) ≡ q → takes (rest b fs) ≤ b → takes (rest b (left j s ∷ fs)) ≤ b
    go true e low = rw e low
    go false e low = rw e (leb-false b (rank j) e)

settle_binds : (b : ℕ) (fs : List Frame) (t : Tree) → b ≤ 2 → b ≤ binding t → b ≤ binding (whole b fs t)
unfolding whole
settle_binds b [] t low h = h
settle_binds b (bracket ∷ fs) t low h = h
settle_binds b (waiting p ∷ fs) t low h = settle_binds b fs (prefixed p t) low low
settle_binds b (left j s ∷ fs) t low h = go (leb b (rank j)) refl (λ l. settle_binds b fs (joined j s t) low l)
  where
    go : (q : Bool) → leb b (rank j) ≡ q → (b ≤ rank j → b ≤ binding (whole b fs (joined j s t))) → b ≤ binding (whole b (left j s ∷ fs) t)
    go true e below = rw e (below (leb-true b (rank j) e))
    go false e below = rw e h

-- settling leaves the brackets
pub settle_opens : (b : ℕ) (fs : List Frame) → opens (rest b fs) ≡ opens fs
unfolding rest opens
settle_opens b [] = refl
settle_opens b (bracket ∷ fs) = refl
settle_opens b (waiting p ∷ fs) = settle_opens b fs
settle_opens b (left j s ∷ fs) = go (leb b (rank j)) refl (settle_opens b fs)
  where
    go : (q : Bool) → leb b (rank j) ≡ q → opens (rest b fs) ≡ opens fs → opens (rest b (left j s ∷ fs)) ≡ opens fs
    go true e below = rw e below
    go false e below = rw e refl

-- settling all goes to the innermost bracket, or to the end
pub to_end : (fs : List Frame) → opens fs ≡ 0 → rest 0 fs ≡ []
unfolding rest opens
to_end [] none = refl
to_end (bracket ∷ fs) none = absurd (omega (arith, none))
to_end (waiting p ∷ fs) none = to_end fs none
to_end (left j s ∷ fs) none = let yes : leb 0 (rank j) ≡ true = le-leb 0 (rank j) (omega arith) in rw yes (to_end fs none)

pub to_bracket : (fs : List Frame) (d : ℕ) → opens fs ≡ suc d → (gs : List Frame) × (rest 0 fs ≡ bracket ∷ gs) × (opens gs ≡ d)
unfolding rest opens
to_bracket [] d some = absurd (omega (arith, some))
to_bracket (bracket ∷ fs) d some = (fs, refl, omega (arith, some))
to_bracket (waiting p ∷ fs) d some = to_bracket fs d some
to_bracket (left j s ∷ fs) d some = let yes : leb 0 (rank j) ≡ true = le-leb 0 (rank j) (omega arith) in rw yes (to_bracket fs d some)

-- what holds of each state: its operands are grouped, and it has read these signs
unfoldable pub Good : State → List Sign → Type 0
Good (operand fs) seen = Built fs × (spelt fs ≡ seen)
Good (operator fs t) seen = On fs t × (2 ≤ binding t) × (spelt fs ++ signs t ≡ seen)
Good failed seen = Unit {0}

done_good : (fs : List Frame) (t : Tree) (seen : List Sign) → Built fs → Grouped t → 2 ≡ binding t → spelt fs ++ signs t ≡ seen → Good (done fs t) seen
unfolding Good
done_good fs t seen built grouped high read = (
  settle_on 2 fs t (record { built = built; grouped = grouped; fits = omega (arith, takes_low fs) }),
  settle_binds 2 fs t (omega arith) (omega arith),
  settle_spelt 2 fs t ∙ read,
)

closed_good : (fs : List Frame) (t : Tree) (seen : List Sign) → On fs t → spelt fs ++ signs t ≡ seen → Good (closed fs t) (seen ++ (Sign.Close ∷ []))
unfolding Good spelt signs Built Grouped
closed_good [] t seen on read = tt
closed_good (bracket ∷ fs) t seen on read =
    done_good fs (bracketed t) _ on.built on.grouped refl (rw (sym read) (simp append_assoc))
closed_good (waiting p ∷ fs) t seen on read = tt
closed_good (left j s ∷ fs) t seen on read = tt

pub step_good : (σ : State) (s : Sign) (seen : List Sign) → Good σ seen → Good (step σ s) (seen ++ (s ∷ []))
unfolding Good step spelt signs Built Grouped takes
step_good (operand fs) (Sign.Alone l) seen g = done_good fs (leaf l) _ g.0 tt refl (rw g.1 refl)
step_good (operand fs) (Sign.Before p) seen g = (g.0, rw g.1 refl)
step_good (operand fs) (Sign.Between j) seen g = tt
step_good (operand fs) Sign.Open seen g = (g.0, rw g.1 refl)
step_good (operand fs) Sign.Close seen g = tt
step_good (operator fs t) (Sign.Alone l) seen g = tt
step_good (operator fs t) (Sign.Before p) seen g = tt
step_good (operator fs t) (Sign.Between j) seen g =
    let on = settle_on (rank j) fs t g.0 in (
      (settle_takes (rank j) fs, settle_binds (rank j) fs t (omega (arith, rank_low j)) (omega (arith, rank_low j)), on.grouped, on.built),
      rw (sym g.2, sym (settle_spelt (rank j) fs t)) (simp append_assoc),
    )
step_good (operator fs t) Sign.Open seen g = tt
step_good (operator fs t) Sign.Close seen g =
    closed_good (rest 0 fs) (whole 0 fs t) seen (settle_on 0 fs t g.0) (settle_spelt 0 fs t ∙ g.2)
step_good failed s seen g = tt

pub run_good : (σ : State) (ss seen : List Sign) → Good σ seen → Good (run σ ss) (seen ++ ss)
unfolding run
run_good σ [] seen g = rw append-nil g
run_good σ (s ∷ ss) seen g = rw append_assoc at (run_good (step σ s) ss (seen ++ (s ∷ [])) (step_good σ s seen g))

-- signs that lead to an operand with no bracket open are those of a tree
pub tree_of : (ss : List Sign) (fs : List Frame) (t : Tree) → run (operand []) ss ≡ operator fs t → opens fs ≡ 0
    → Grouped (whole 0 fs t) × (signs (whole 0 fs t) ≡ ss)
unfolding Good Built spelt
tree_of ss fs t is none =
    let g : Good (operator fs t) ss = rw is at (run_good (operand []) ss [] (tt, refl)) in
    let all = settle_spelt 0 fs t in
    ((settle_on 0 fs t g.0).grouped, (rw (to_end fs none) at all) ∙ g.2)
