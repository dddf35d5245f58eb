-- A list of sets in lent words: their codes, one a word.
use Rattle.std.specs.Prelude.{◌≡◌, ◌⊎◌, Bool, List, [], ◌∷◌, ℕ, zero, suc, ◌+◌, get_or}
use Rattle.sets.specs.Set.{Within}
use Rattle.sets.specs.Word.{bit_at}
use Rattle.tableau.specs.Listed.{In}

-- the k codes from a place on
unfoldable pub codes_from : List ℕ → (at k : ℕ) → List ℕ
codes_from words at zero = []
codes_from words at (suc k) = get_or words at 0 ∷ codes_from words (suc at) k

-- some listed set has all members of p
abbrev pub Inside : (ℕ → Bool) → List ℕ → Type 0
Inside p list = (b : ℕ) × In b list × Within p (bit_at b)

-- the code b was written behind the k codes from a place on
pub record Appended (before : List ℕ) (at k b : ℕ) (after : List ℕ) : Type 0 where
  pub older : (c : ℕ) → In c (codes_from before at k) → In c (codes_from after at (suc k))
  pub new : In b (codes_from after at (suc k))
  pub no_other : (c : ℕ) → In c (codes_from after at (suc k)) → (c ≡ b) ⊎ In c (codes_from before at k)
  pub elsewhere : (i : ℕ) → (i ≡ at + k → ⊥) → get_or after i 0 ≡ get_or before i 0
