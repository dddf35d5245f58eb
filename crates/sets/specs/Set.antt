-- A set as the test of its members, and what each operation makes of such tests.
use Rattle.std.specs.Prelude.{Option, Some, None, Bool, true, false, not, ◌&&◌, ◌||◌, ◌≡◌, ℕ, ◌<◌, ◌≤◌, eqb}
use Rattle.sets.specs.Word.{bit_at, Greatest}
use Rattle.sets.specs.declared.Set.{Set}

-- is the number in the set
unfoldable pub member : Set → ℕ → Bool
member s = bit_at s.bits

-- no number
abbrev pub nothing : ℕ → Bool
nothing j = false

-- the numbers of p, and i
abbrev pub added : (ℕ → Bool) → ℕ → ℕ → Bool
added p i j = eqb j i || p j

-- the numbers of p but i
abbrev pub removed : (ℕ → Bool) → ℕ → ℕ → Bool
removed p i j = not (eqb j i) && p j

-- the numbers of p or q
abbrev pub either : (ℕ → Bool) → (ℕ → Bool) → ℕ → Bool
either p q j = p j || q j

-- the numbers of both p and q
abbrev pub both : (ℕ → Bool) → (ℕ → Bool) → ℕ → Bool
both p q j = p j && q j

-- the numbers of p that are not of q
abbrev pub but_not : (ℕ → Bool) → (ℕ → Bool) → ℕ → Bool
but_not p q j = p j && not (q j)

-- the answer is right: the greatest number of p, or that there is none
abbrev pub HighestOf : (ℕ → Bool) → Option ℕ → Type 0
HighestOf p (Some i) = Greatest p i
HighestOf p None = p ≡ nothing

-- every number of p is one of q
abbrev pub Within : (ℕ → Bool) → (ℕ → Bool) → Type 0
Within p q = (i : ℕ) → p i ≡ true → q i ≡ true

-- the number that the members of a set spell; sets are tried in its order
abbrev pub code : Set → ℕ
code s = s.bits

-- of the sets of numbers of p, the one with the code r comes next below the code b
pub record NextBelow (p : ℕ → Bool) (b r : ℕ) : Type 0 where
  pub smaller : r < b
  pub within : Within (bit_at r) p
  pub greatest : (x : ℕ) → Within (bit_at x) p → x < b → x ≤ r

-- the answer is right: the set that comes next below the code b, or that no code is smaller
abbrev pub BelowOf : (ℕ → Bool) → ℕ → Option Set → Type 0
BelowOf p b (Some s) = NextBelow p b (code s)
BelowOf p b None = b ≡ 0
