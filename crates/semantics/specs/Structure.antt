-- Finite Kripke structures: source 001, definition 2.1, with worlds that are numbers and links that have copies (document 02, P7).
-- Document 01 calls a structure a build, a world a place or a piece of equipment.
use Rattle.std.specs.Prelude.{Bool, ℕ}
use Rattle.semantics.specs.Count.{gain, sum}

-- how many copies a link has, one to four. `none`: there is no link
pub data Copies : Type 0 where
  none : Copies
  one : Copies
  two : Copies
  three : Copies
  four : Copies

-- the number of each
abbrev pub number : Copies → ℕ
number none = 0
number one = 1
number two = 2
number three = 3
number four = 4

-- The worlds are the numbers below `worlds`. `holds p w`: the fact p holds at w. `links r v w`: the copies of the link of the relation r from v to w.
-- What the two say of numbers that are no worlds has no influence on any truth.
pub record Structure : Type 0 where
  pub worlds : ℕ
  pub holds : ℕ → ℕ → Bool
  pub links : ℕ → ℕ → ℕ → Copies

-- how many copies do the links of the relation r from w to the worlds that pass the test have: ♯R(x, φ) of definition 2.1, where each link counts as
-- often as it has copies
abbrev pub successors : Structure → ℕ → ℕ → (ℕ → Bool) → ℕ
successors s r w p = sum (λ v. gain (p v) (number (s.links r w v))) s.worlds
