-- What a survey of a text finds. An inner contract.
use Rattle.std.specs.Prelude.{Option, Some, None, ◌≡◌, Bool, true, false, cond, List, ℕ, ◌+◌, ◌-◌, ◌<◌, eqb}
use Rattle.grammar.specs.declared.Sign.{Sign}
use Rattle.grammar.specs.declared.lexer.Lexed.{Lexed}
use Rattle.grammar.specs.Tree.{Tree, signs}
use Rattle.grammar.specs.Fits.{Fits}
use Rattle.grammar.specs.Measure.{any_over, entries}
use Rattle.survey.specs.declared.Mode.{Mode}
use Rattle.survey.specs.declared.Counted.{Counted}

-- one more bracket can be counted
abbrev pub Shallow : ℕ → Type 0
Shallow depth = depth + 1 < 18446744073709551616

-- where a sign leads: where an operand is expected, and behind one
abbrev pub operand_step : ℕ → Sign → Option Mode
operand_step depth (Sign.Alone l) = Some (record { operand = false; depth = depth })
operand_step depth (Sign.Before p) = Some (record { operand = true; depth = depth })
operand_step depth (Sign.Between j) = None
operand_step depth Sign.Open = Some (record { operand = true; depth = depth + 1 })
operand_step depth Sign.Close = None

abbrev pub closing : ℕ → Option Mode
closing depth = cond (eqb depth 0) None (Some (record { operand = false; depth = depth - 1 }))

abbrev pub operator_step : ℕ → Sign → Option Mode
operator_step depth (Sign.Alone l) = None
operator_step depth (Sign.Before p) = None
operator_step depth (Sign.Between j) = Some (record { operand = true; depth = depth })
operator_step depth Sign.Open = None
operator_step depth Sign.Close = closing depth

abbrev pub stepped : Mode → Sign → Option Mode
stepped mode sign = cond mode.operand (operand_step mode.depth sign) (operator_step mode.depth sign)

-- at the text's end: whether an operand is expected, and whether all brackets are closed
abbrev pub at_end : (operand shut : Bool) → Counted → Option Counted
at_end true shut counted = None
at_end false true counted = Some counted
at_end false false counted = None

-- what is counted in a text where no sign follows
abbrev pub finished : Lexed → Mode → Counted → Option Counted
finished (Lexed.Found f) mode counted = None
finished Lexed.Bad mode counted = None
finished Lexed.End mode counted = at_end mode.operand (eqb mode.depth 0) counted

-- the text has a tree, of so many entries, with a number over 255 or not; or it has none
abbrev pub SurveyIs : List ℕ → Option Counted → Type 0
SurveyIs text (Some counted) =
    (t : Tree) × Fits text t × (counted.entries ≡ entries (signs t)) × (counted.over ≡ any_over (signs t))
SurveyIs text None = (t : Tree) → Fits text t → ⊥
