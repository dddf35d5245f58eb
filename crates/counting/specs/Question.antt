-- A question as the problem that it poses.
use Rattle.std.specs.Prelude.{◌≡◌, Bool, true, false, cond, ◌&&◌, List, ℕ, ◌<◌, ◌≤◌, eqb, length}
use Rattle.sets.specs.declared.Set.{Set}
use Rattle.sets.specs.Set.{member}
use Rattle.table.specs.declared.entry.Entry.{Entry}
use Rattle.wide.specs.Wide.{wide_in}
use Rattle.tableau.specs.Wants.{wanted}
use Rattle.tableau.specs.Counting.{bound, lo, hi}
use Rattle.tableau.specs.Search.{Problem, Asks}
use Rattle.counting.specs.declared.question.Question.{Question}

-- the needs and limits of the question's relation
abbrev pub problem_of : List ℕ → Question → Problem
problem_of entries q =
    record { entry = wide_in entries; n = length entries; yes = member q.yes; no = member q.no; relation = q.relation }

-- is entry i, with the fields e, a need (c true) or a limit (c false) of the question's relation
abbrev pub asks : Question → Entry → ℕ → (c : Bool) → Bool
asks q e i c = eqb e.name q.relation && bound (member q.yes) (member q.no) e i c

-- how many successors an entry asks for as a need (c true), how many it allows as a limit (c false)
abbrev pub bound_of : (c : Bool) → Entry → ℕ
bound_of c e = cond c (lo e) (hi e)

-- a need is met by no fewer than its bound, a limit is kept by no more
abbrev pub Holds : (c : Bool) (bound count : ℕ) → Type 0
Holds true bound count = bound ≤ count
Holds false bound count = count ≤ bound

-- there are no more entries than a set has room for, and only entries are wanted
pub record Small (P : Problem) : Type 0 where
  pub few : P.n ≤ 64
  pub below : (b : Bool) (i : ℕ) → wanted P.yes P.no b i ≡ true → i < P.n

-- the members are the numbers below n that pass a test
pub record Those (n : ℕ) (Gives : ℕ → Bool → Type 0) (p : ℕ → Bool) : Type 0 where
  pub below : (i : ℕ) → p i ≡ true → i < n
  pub passes : (i : ℕ) → i < n → Gives i (p i)

-- all members are needs (c true); all are limits (c false)
abbrev pub OnlyAsked : Problem → (c : Bool) → (ℕ → Bool) → Type 0
OnlyAsked P c p = (i : ℕ) → p i ≡ true → Asks P c i

-- entry i is a need, and entry j a limit that allows fewer
pub record Exceeds (P : Problem) (i j : ℕ) : Type 0 where
  pub need : Asks P true i
  pub limit : Asks P false j
  pub more : hi (P.entry j) < lo (P.entry i)

-- of some entries, no need is in the set
pub record NoNeed (P : Problem) (set : Set) (among : ℕ → Type 0) : Type 0 where
  pub none : (i : ℕ) → among i → Asks P true i → member set i ≡ true → ⊥

-- entry i is a limit that allows none
pub record Closed (P : Problem) (i : ℕ) : Type 0 where
  pub limit : Asks P false i
  pub none : hi (P.entry i) ≡ 0
