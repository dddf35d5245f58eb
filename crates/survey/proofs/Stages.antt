-- What a survey holds stands for a state of the reader, and each of its steps for one of the reader's.
use mathlib.Core.Path.{◌≡◌, refl, sym, ◌∙◌}
use mathlib.Core.Bool.{true, false}
use mathlib.Core.List.{List}
use Rattle.std.specs.Prelude.{Option, Some, None}
use Prim.Native.Nat.{ℕ, zero, suc, ◌+◌, ◌≤◌}
use native.Mathlib.Omega.{arith}
use borrow.Author.Rules.{rules}
use borrow.Author.Tests.{ne_eqb}
use Rattle.grammar.specs.declared.Leaf.{Leaf}
use Rattle.grammar.specs.declared.Prefix.{Prefix}
use Rattle.grammar.specs.declared.Sign.{Sign}
use Rattle.grammar.specs.Tree.{Tree, rank}
use Rattle.grammar.specs.Measure.{weight, cut}
use Rattle.grammar.specs.Parser.{Frame, State, operand, operator, failed, closed, step, rest, opens}
use Rattle.grammar.proofs.Reader.{settle_opens, to_end, to_bracket}
use Rattle.survey.specs.declared.Mode.{Mode}
use Rattle.survey.specs.Survey.{closing, stepped}

-- a state of the reader, as much of it as the survey holds
abbrev pub Stage : State → Mode → Type 0
Stage (operand fs) m = (m.operand ≡ true) × (m.depth ≡ opens fs)
Stage (operator fs t) m = (m.operand ≡ false) × (m.depth ≡ opens fs)
Stage failed m = ⊥

-- where a step from such a depth leads
abbrev pub Leads : ℕ → State → Option Mode → Type 0
Leads d σ (Some m) = Stage σ m × (m.depth ≤ d + 1)
Leads d σ None = σ ≡ failed

closes : (fs : List Frame) (t : Tree) (d : ℕ) → d ≡ opens fs → Leads d (closed (rest 0 fs) t) (closing d)
closes fs t zero e = rw (to_end fs (sym e)) refl
closes fs t (suc d) e =
    let (gs, is, fewer) = to_bracket fs d (sym e) in
    rw (is, ne_eqb (suc d) 0 (omega arith)) ((refl, omega (arith, settle_opens 2 gs)), omega arith)

pub leads : (σ : State) (m : Mode) (s : Sign) → Stage σ m → Leads m.depth (step σ s) (stepped m s)
unfolding step opens
leads (operand fs) m (Sign.Alone l) (is, d) = rw is ((refl, d ∙ sym (settle_opens 2 fs)), omega arith)
leads (operand fs) m (Sign.Before p) (is, d) = rw is ((refl, d), omega arith)
leads (operand fs) m (Sign.Between j) (is, d) = rw is refl
leads (operand fs) m Sign.Open (is, d) = rw is ((refl, omega arith), omega arith)
leads (operand fs) m Sign.Close (is, d) = rw is refl
leads (operator fs t) m (Sign.Alone l) (is, d) = rw is refl
leads (operator fs t) m (Sign.Before p) (is, d) = rw is refl
leads (operator fs t) m (Sign.Between j) (is, d) = rw is ((refl, d ∙ sym (settle_opens (rank j) fs)), omega arith)
leads (operator fs t) m Sign.Open (is, d) = rw is refl
leads (operator fs t) m Sign.Close (is, d) = rw is (closes fs _ m.depth d)
leads failed m s stage = absurd stage

-- a sign that is cut leads to the same, and makes as many entries
pub record Alike (m : Mode) (s t : Sign) : Type 0 where
  pub steps : stepped m s ≡ stepped m t
  pub weighs : weight s ≡ weight t

pub alike : (m : Mode) (s : Sign) → Alike m (cut s) s
alike m (Sign.Alone Leaf.True) = search rules
alike m (Sign.Alone Leaf.False) = search rules
alike m (Sign.Alone (Leaf.Fact n)) = search rules
alike m (Sign.Before Prefix.Not) = search rules
alike m (Sign.Before (Prefix.AtLeast n r)) = search rules
alike m (Sign.Before (Prefix.AtMost n r)) = search rules
alike m (Sign.Between j) = search rules
alike m Sign.Open = search rules
alike m Sign.Close = search rules
