-- What the functions that call each other ask of lists of sets of promises, and answer: all the largest, or some.
use Rattle.std.specs.Prelude.{◌≡◌, Bool, true, List, Result, Ok, Err, ℕ, ◌-◌, ◌<◌, length, take}
use Rattle.sets.specs.declared.Set.{Set}
use Rattle.sets.specs.Set.{either, Within}
use Rattle.tableau.specs.Counting.{Row}
use Rattle.tableau.specs.Search.{Problem, Asks, FitRow, Solvable}
use Rattle.tableau.specs.Listed.{In}
use Rattle.listed.specs.Codes.{Inside}
use Rattle.cases.specs.Levels.{Roomy, Remembers}
use Rattle.promises.specs.declared.listing.Full.{Full}
use Rattle.promises.specs.Promise.{Promising}
use Rattle.promises.specs.Listing.{list_of, Lists, FitList}
use Rattle.satisfy.specs.declared.answers.Guess.{Guess}
use Rattle.satisfy.specs.declared.answers.Said.{Said}
use Rattle.satisfy.specs.Asking.{ProblemAsked}

module _ (P : Problem) where
  -- no row that may stand in a solution promises all of p
  abbrev pub Unkept : (ℕ → Bool) → Type 0
  Unkept p = (row : Row) → FitRow P row → Within p row.promises → ⊥

  -- a row that promises all of `low`, nothing beyond `high`, and serves a need, promises no more than a listed set
  abbrev pub Reaches : (low high : ℕ → Bool) → List ℕ → Type 0
  Reaches low high list =
      (row : Row) → FitRow P row → Within low row.promises → Within row.promises high → (i : ℕ) → Asks P true i → row.promises i ≡ true
      → Inside row.promises list

  -- sets of promises between `low` and these and `free` are to be listed behind k others
  pub record ListAsked (low free : ℕ → Bool) (k depth level : ℕ) (work : List ℕ) : Type 0 where
    pub promising : Promising P (either low free) (depth - 1)
    pub deep : 0 < depth
    pub room : Roomy P.entry P.n depth level (length work)
    pub memory : Remembers P.entry depth level work
    pub lists : Lists P k level work

  -- the largest of them are listed, and what was listed before is
  pub record ListedMore (low high : ℕ → Bool) (k depth level : ℕ) (before after : List ℕ) (more : ℕ) : Type 0 where
    pub lists : Lists P more level after
    pub older : (b : ℕ) → In b (list_of P.n level before k) → In b (list_of P.n level after more)
    pub reaches : Reaches low high (list_of P.n level after more)
    pub memory : Remembers P.entry depth level after

  abbrev pub ListingIs : (low high : ℕ → Bool) (k depth level : ℕ) (before after : List ℕ) → Result ℕ Full → Type 0
  ListingIs low high k depth level before after (Ok more) = ListedMore low high k depth level before after more
  ListingIs low high k depth level before after (Err full) = FitList P full.listed depth level after

  -- `low` and `free` cannot be kept together
  pub record CoreAsked (low free : ℕ → Bool) (depth level : ℕ) (work : List ℕ) : Type 0 where
    pub promising : Promising P (either low free) (depth - 1)
    pub unkept : Unkept (either low free)
    pub deep : 0 < depth
    pub room : Roomy P.entry P.n depth level (length work)
    pub memory : Remembers P.entry depth level work

  -- a part of `free` that cannot be kept beside `low`; the words of the level are as before
  pub record CoreIs (low free core : ℕ → Bool) (depth level : ℕ) (before after : List ℕ) : Type 0 where
    pub within : Within core free
    pub unkept : Unkept (either low core)
    pub same : take level after ≡ take level before
    pub memory : Remembers P.entry depth level after

  -- more sets are to be listed, behind k others
  pub record ExtendAsked (all : Set) (k depth level : ℕ) (work : List ℕ) : Type 0 where
    pub problem : ProblemAsked P all depth level work
    pub lists : Lists P k level work

  -- sets that are listed are fit; of weights and of the entries that are guessed to have no solution nothing is promised
  abbrev pub GuessIs : (depth level : ℕ) → List ℕ → Guess → Type 0
  GuessIs depth level after (Guess.Among k) = FitList P k depth level after
  GuessIs depth level after (Guess.Without s) = Remembers P.entry depth level after
  GuessIs depth level after Guess.Nothing = Remembers P.entry depth level after

  -- what a list says of the problem
  abbrev pub SaidIs : Said → Type 0
  SaidIs Said.Yes = Solvable P
  SaidIs (Said.No s) = Solvable P → ⊥
  SaidIs Said.Nothing = Unit {0}
