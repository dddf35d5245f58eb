-- Structures without copies: source 001, definition 2.1, as it is published. A link is there or not, and counting counts worlds. Truth by copies is held
-- to this: document 02, P7, "the board must match a structure in which every world stands four times".
use Rattle.std.specs.Prelude.{◌≡◌, Bool, true, false, not, ◌&&◌, ◌||◌, ℕ, ◌*◌, ◌/◌, ◌%◌, ◌<◌, leb, ltb}
use Rattle.semantics.specs.Count.{count}
use Rattle.semantics.specs.Formula.{Formula, verum, falsum, fact, neg, conj, disj, at_least, at_most}
use Rattle.semantics.specs.Structure.{Copies, none, one, number, Structure}

-- as a `Structure`, but `links r v w` says whether a link of the relation r leads from v to w
pub record Plain : Type 0 where
  pub worlds : ℕ
  pub holds : ℕ → ℕ → Bool
  pub links : ℕ → ℕ → ℕ → Bool

-- how many worlds does a link of the relation r lead to from w, of those that pass the test: ♯R(x, φ)
abbrev pub plain_successors : Plain → ℕ → ℕ → (ℕ → Bool) → ℕ
plain_successors s r w p = count (λ v. s.links r w v && p v) s.worlds

unfoldable pub plain_truth : Plain → Formula → ℕ → Bool
plain_truth s verum w = true
plain_truth s falsum w = false
plain_truth s (fact p) w = s.holds p w
plain_truth s (neg φ) w = not (plain_truth s φ w)
plain_truth s (conj φ ψ) w = plain_truth s φ w && plain_truth s ψ w
plain_truth s (disj φ ψ) w = plain_truth s φ w || plain_truth s ψ w
plain_truth s (at_least n r φ) w = leb n (plain_successors s r w (plain_truth s φ))
plain_truth s (at_most n r φ) w = leb (plain_successors s r w (plain_truth s φ)) n

-- some world of some finite structure without copies makes the formula true
pub record PlainSatisfiable (φ : Formula) : Type 0 where
  pub structure : Plain
  pub world : ℕ
  pub inside : world < structure.worlds
  pub holds : plain_truth structure φ world ≡ true

-- a link of one copy, or none
abbrev pub once : Bool → Copies
once true = one
once false = none

-- the same worlds and facts, each link with one copy
unfoldable pub single : Plain → Structure
single s = record { worlds = s.worlds; holds = s.holds; links = λ r v w. once (s.links r v w) }

-- Every world stands four times, w at 4w, 4w + 1, 4w + 2 and 4w + 3, with its facts. Each standing of the origin links to the first of the target's
-- four, as many as there are copies.
unfoldable pub fourfold : Structure → Plain
fourfold s = record {
  worlds = 4 * s.worlds;
  holds = λ p u. s.holds p (u / 4);
  links = λ r u v. ltb (v % 4) (number (s.links r (u / 4) (v / 4)));
}
