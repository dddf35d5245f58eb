-- The states of a reader that takes one sign after the other. An inner contract.
use Rattle.std.specs.Prelude.{Bool, true, false, List, [], ◌∷◌, ℕ, suc, leb}
use Rattle.grammar.specs.declared.Prefix.{Prefix}
use Rattle.grammar.specs.declared.Join.{Join}
use Rattle.grammar.specs.declared.Sign.{Sign}
use Rattle.grammar.specs.Tree.{Tree, leaf, bracketed, prefixed, joined, rank}

-- what waits for an operand: an open bracket, a prefix, or a left operand with its sign
pub data Frame : Type 0 where
  bracket : Frame
  waiting : Prefix → Frame
  left : Join → Tree → Frame

-- an operand is expected; an operand was read; the signs fit no tree. The innermost frame is first.
pub data State : Type 0 where
  operand : List Frame → State
  operator : List Frame → Tree → State
  failed : State

abbrev pick : {A : Type 0} → Bool → A → A → A
pick true a b = a
pick false a b = b

-- The frames that bind at least as closely as b take the operand: those that are left, and the operand that comes of it.
unfoldable pub rest : ℕ → List Frame → List Frame
rest b [] = []
rest b (bracket ∷ fs) = bracket ∷ fs
rest b (waiting p ∷ fs) = rest b fs
rest b (left j s ∷ fs) = pick (leb b (rank j)) (rest b fs) (left j s ∷ fs)

unfoldable pub whole : ℕ → List Frame → Tree → Tree
whole b [] t = t
whole b (bracket ∷ fs) t = t
whole b (waiting p ∷ fs) t = whole b fs (prefixed p t)
whole b (left j s ∷ fs) t = pick (leb b (rank j)) (whole b fs (joined j s t)) t

-- an operand that holds together by itself: prefixes take it at once
abbrev pub done : List Frame → Tree → State
done fs t = operator (rest 2 fs) (whole 2 fs t)

abbrev pub closed : List Frame → Tree → State
closed [] t = failed
closed (bracket ∷ fs) t = done fs (bracketed t)
closed (waiting p ∷ fs) t = failed
closed (left j s ∷ fs) t = failed

unfoldable pub step : State → Sign → State
step (operand fs) (Sign.Alone l) = done fs (leaf l)
step (operand fs) (Sign.Before p) = operand (waiting p ∷ fs)
step (operand fs) (Sign.Between j) = failed
step (operand fs) Sign.Open = operand (bracket ∷ fs)
step (operand fs) Sign.Close = failed
step (operator fs t) (Sign.Alone l) = failed
step (operator fs t) (Sign.Before p) = failed
step (operator fs t) (Sign.Between j) = operand (left j (whole (rank j) fs t) ∷ rest (rank j) fs)
step (operator fs t) Sign.Open = failed
step (operator fs t) Sign.Close = closed (rest 0 fs) (whole 0 fs t)
step failed s = failed

unfoldable pub run : State → List Sign → State
run σ [] = σ
run σ (s ∷ ss) = run (step σ s) ss

-- how many brackets are open
unfoldable pub opens : List Frame → ℕ
opens [] = 0
opens (bracket ∷ fs) = suc (opens fs)
opens (waiting p ∷ fs) = opens fs
opens (left j s ∷ fs) = opens fs
