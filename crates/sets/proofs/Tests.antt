-- Two tests together. `and` is for true what `or` is for false, so each law is stated once, for a truth value b.
use mathlib.Core.Path.{◌≡◌, refl}
use mathlib.Core.Logic.{◌⊎◌, inl, inr, ⊎_map}
use mathlib.Core.Bool.{Bool, true, false, cond, not, ◌&&◌, ◌||◌, or-true, and-false, true≢false, false≢true}

-- b exactly where both are b; b exactly where one of them is
abbrev pub both : Bool → Bool → Bool → Bool
both b x y = cond b (x && y) (x || y)

abbrev pub either : Bool → Bool → Bool → Bool
either b x y = cond b (x || y) (x && y)

module _ {x y : Bool} where
  pub both_made : (b : Bool) → x ≡ b → y ≡ b → both b x y ≡ b
  both_made true p q = rw (p, q)
  both_made false p q = rw (p, q)

  pub either_made : (b : Bool) → (x ≡ b) ⊎ (y ≡ b) → either b x y ≡ b
  either_made true (inl p) = rw p
  either_made true (inr q) = rw (q, or-true)
  either_made false (inl p) = rw p
  either_made false (inr q) = rw (q, and-false)

pub both_parts : (b x y : Bool) → both b x y ≡ b → (x ≡ b) × (y ≡ b)
both_parts true true y e = (refl, e)
both_parts true false y e = absurd (false≢true e)
both_parts false true y e = absurd (true≢false e)
both_parts false false y e = (refl, e)

pub either_parts : (b x y : Bool) → either b x y ≡ b → (x ≡ b) ⊎ ((x ≡ not b) × (y ≡ b))
either_parts true true y e = inl refl
either_parts true false y e = inr (refl, e)
either_parts false true y e = inr (refl, e)
either_parts false false y e = inl refl

pub one_of : (x y : Bool) → x || y ≡ true → (x ≡ true) ⊎ (y ≡ true)
one_of true y e = inl refl
one_of false y e = inr e

-- what grows with its parts
module _ {x' y' : Bool} where
  pub and_grows : (x y : Bool) → (x ≡ true → x' ≡ true) → (y ≡ true → y' ≡ true) → x && y ≡ true → x' && y' ≡ true
  and_grows x y f g e = let parts = both_parts true x y e in both_made true (f parts.0) (g parts.1)

  pub or_grows : (x y : Bool) → (x ≡ true → x' ≡ true) → (y ≡ true → y' ≡ true) → x || y ≡ true → x' || y' ≡ true
  or_grows x y f g e = either_made true (⊎_map f g (one_of x y e))
