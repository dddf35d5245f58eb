-- What the entries of a table mean: document 01's table of kinds.
use Rattle.std.specs.Prelude.{◌≡◌, List, [], ◌∷◌, ◌++◌, ℕ, zero, suc, max, ◌<◌, ◌≤◌, get_or}
use Rattle.semantics.specs.Formula.{Formula, verum, falsum, fact, neg, conj, disj, at_least, at_most, depth}
use Rattle.table.specs.declared.entry.Entry.{Entry}

-- document 01's table of kinds, a row a kind from kind 0 on, given the formulas that references stand for
unfoldable pub kinds : (ℕ → Formula) → Entry → List Formula
kinds ref e =
    verum
    ∷ falsum
    ∷ fact e.name
    ∷ neg (ref e.first)
    ∷ conj (ref e.first) (ref e.second)
    ∷ disj (ref e.first) (ref e.second)
    ∷ at_least e.grade e.name (ref e.first)
    ∷ at_most e.grade e.name (ref e.first)
    ∷ []

-- the formula of an entry
unfoldable pub formula_of : (ℕ → Formula) → Entry → Formula
formula_of ref e = get_or (kinds ref e) e.kind falsum

-- the formulas of the first n entries, each made from those before it
unfoldable pub formulas : (ℕ → Entry) → ℕ → List Formula
formulas entry zero = []
formulas entry (suc n) =
    let known : List Formula = formulas entry n in
    known ++ (formula_of (λ j. get_or known j falsum) (entry n) ∷ [])

-- the formula of entry i
unfoldable pub formula_at : (ℕ → Entry) → ℕ → Formula
formula_at entry i = get_or (formulas entry (suc i)) i falsum

-- the depth of entry i
abbrev pub depth_at : (ℕ → Entry) → ℕ → ℕ
depth_at entry i = depth (formula_at entry i)

-- document 01's words on depth, a row a kind: a is the depth of the first part, b that of the second
abbrev pub depth_of : ℕ → ℕ → ℕ → ℕ
depth_of a b kind = get_or (0 ∷ 0 ∷ 0 ∷ a ∷ max a b ∷ max a b ∷ suc a ∷ suc a ∷ []) kind 0

-- a list holds the depths of the first n entries, and 0 behind them
pub record Depths (entry : ℕ → Entry) (n : ℕ) (depths : List ℕ) : Type 0 where
  pub below : (i : ℕ) → i < n → get_or depths i 0 ≡ depth_at entry i
  pub behind : (i : ℕ) → n ≤ i → get_or depths i 0 ≡ 0
