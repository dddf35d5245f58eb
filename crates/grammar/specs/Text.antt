-- The signs of a text: document 02, P1: "Spaces, or none, may stand around signs; `>=2` and `r7` are two signs."
use Rattle.std.specs.Prelude.{◌≡◌, List, [], ◌∷◌, ℕ, ◌+◌, ◌<◌, ◌≤◌, length, get_or}
use Rattle.numerals.specs.Numeral.{Numeral}
use Rattle.grammar.specs.declared.Leaf.{Leaf}
use Rattle.grammar.specs.declared.Prefix.{Prefix}
use Rattle.grammar.specs.declared.Join.{Join}
use Rattle.grammar.specs.declared.Sign.{Sign}

-- how a sign is written: one byte; a byte and a number, `n12`; a byte, `=` and a number, and then `r` and a number, `>=2 r7`
pub data Form : Type 0 where
  byte : ℕ → Form
  numbered : (lead number : ℕ) → Form
  paired : (lead grade relation : ℕ) → Form

-- the signs, by their first bytes in ASCII
abbrev pub form : Sign → Form
form (Sign.Alone Leaf.True) = byte 84
form (Sign.Alone Leaf.False) = byte 70
form (Sign.Alone (Leaf.Fact n)) = numbered 110 n
form (Sign.Before Prefix.Not) = byte 33
form (Sign.Before (Prefix.AtLeast n r)) = paired 62 n r
form (Sign.Before (Prefix.AtMost n r)) = paired 60 n r
form (Sign.Between Join.And) = byte 38
form (Sign.Between Join.Or) = byte 124
form Sign.Open = byte 40
form Sign.Close = byte 41

-- The bytes of the text from place i up to place j, in each of the following:

-- spaces, or none; only the byte 32 is a space
pub record Spaces (text : List ℕ) (i j : ℕ) : Type 0 where
  pub within : i ≤ j
  pub all : (k : ℕ) → i ≤ k → k < j → get_or text k 0 ≡ 32

-- a byte and a number: `n12`, `r7`
pub record Numbered (text : List ℕ) (i j lead n : ℕ) : Type 0 where
  pub first : get_or text i 0 ≡ lead
  pub number : Numeral text (i + 1) j n

-- the two signs of a counting pair, with spaces, or none, between them: `>=2 r7`, `<=2 r7`
pub record Paired (text : List ℕ) (i j lead n r : ℕ) : Type 0 where
  pub end : ℕ
  pub next : ℕ
  pub first : get_or text i 0 ≡ lead
  pub equals : get_or text (i + 1) 0 ≡ 61
  pub grade : Numeral text (i + 2) end n
  pub spaces : Spaces text end next
  pub relation : Numbered text next j 114 r

-- a sign of a form
abbrev pub Spelt : List ℕ → (i j : ℕ) → Form → Type 0
Spelt text i j (byte b) = (get_or text i 0 ≡ b) × (j ≡ i + 1)
Spelt text i j (numbered b n) = Numbered text i j b n
Spelt text i j (paired b n r) = Paired text i j b n r

-- The text from place i to its end: these signs, with spaces, or none, around them. No sign begins with a digit, so a number goes on as
-- long as digits follow.
unfoldable pub Signs : List ℕ → ℕ → List Sign → Type 0
Signs text i [] = Spaces text i (length text)
Signs text i (s ∷ ss) = (j : ℕ) × (k : ℕ) × Spaces text i j × Spelt text j k (form s) × Signs text k ss
