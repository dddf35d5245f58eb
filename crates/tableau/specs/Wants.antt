-- What is wanted at a world: of some entries that they are true, of others that they are false; and when every rule has been applied.
use Rattle.std.specs.Prelude.{◌≡◌, Bool, true, false, cond, not, ◌&&◌, ◌||◌, [], ◌∷◌, ℕ, ◌<◌, eqb, get_or}
use Rattle.semantics.specs.Structure.{Structure}
use Rattle.semantics.specs.Truth.{truth}
use Rattle.sets.specs.Set.{added}
use Rattle.table.specs.declared.entry.Entry.{Entry}
use Rattle.table.specs.Formulas.{formula_at}

-- a set of entry numbers with one more, if the test says so
abbrev pub added_if : Bool → (ℕ → Bool) → ℕ → ℕ → Bool
added_if true p i = added p i
added_if false p i = p

-- the truth of entry i at the world w
abbrev pub truth_at : (ℕ → Entry) → Structure → ℕ → ℕ → Bool
truth_at entry s w i = truth s (formula_at entry i) w

module _ (yes no : ℕ → Bool) where
  -- the entries wanted b: those of yes are wanted true, those of no are wanted false
  abbrev pub wanted : (b : Bool) → ℕ → Bool
  wanted true = yes
  wanted false = no

  -- What else has to be wanted once entry i, with the fields e, is wanted b: a row a kind (known as the expansion rules of a tableau).
  -- Where one of two parts is enough, the entry may be pending: it is still to be split.
  unfoldable pub rule : (pending : ℕ → Bool) (b : Bool) → Entry → ℕ → Bool
  rule pending b e i =
      let both : Bool = wanted b e.first && wanted b e.second in
      let either : Bool = pending i || (wanted b e.first || wanted b e.second) in
      get_or
      (b
      ∷ not b
      ∷ true
      ∷ wanted (not b) e.first
      ∷ cond b both either
      ∷ cond b either both
      ∷ (b || not (eqb e.grade 0))
      ∷ true
      ∷ [])
      e.kind
      false

-- more is wanted
abbrev pub Grows : (yes no yes' no' : ℕ → Bool) → Type 0
Grows p q p' q' = (b : Bool) (i : ℕ) → wanted p q b i ≡ true → wanted p' q' b i ≡ true

module _ (entry : ℕ → Entry) where
  -- if entry i is a fact, no entry of the set is the same fact
  abbrev pub NoSameFact : (ℕ → Bool) → ℕ → Type 0
  NoSameFact p i = (j : ℕ) → p j ≡ true → (entry i).kind ≡ 2 → (entry j).kind ≡ 2 → (entry i).name ≡ (entry j).name → ⊥

  -- the world w of s is as wanted
  pub record Meets (s : Structure) (w : ℕ) (yes no : ℕ → Bool) : Type 0 where
    pub as_wanted : (b : Bool) (i : ℕ) → wanted yes no b i ≡ true → truth_at entry s w i ≡ b

  -- some world of some structure is as wanted
  pub record Sat (yes no : ℕ → Bool) : Type 0 where
    pub structure : Structure
    pub world : ℕ
    pub inside : world < structure.worlds
    pub meets : Meets structure world yes no

  -- every rule has been applied to the entries wanted, which are below n (known as a saturated branch)
  pub record Settled (n : ℕ) (yes no pending : ℕ → Bool) : Type 0 where
    pub below : (b : Bool) (i : ℕ) → wanted yes no b i ≡ true → i < n
    pub treated : (b : Bool) (i : ℕ) → wanted yes no b i ≡ true → rule yes no pending b (entry i) i ≡ true
    -- what is pending is an or that is wanted true, or an and that is wanted false
    pub splits : (i : ℕ) → pending i ≡ true → (b : Bool) × (wanted yes no b i ≡ true) × ((entry i).kind ≡ cond b 5 4)
    -- no fact is wanted both ways
    pub facts : (i : ℕ) → yes i ≡ true → NoSameFact no i
