-- The line that the mark sheet prints, byte by byte in ASCII. Document 01, "The mark sheet".
use Rattle.std.specs.Prelude.{Result, Ok, Err, cond, List, [], ◌∷◌, ◌++◌, ℕ, ◌+◌, ◌/◌, ◌%◌, ltb}
use Rattle.semantics.specs.Count.{bit}
use Rattle.faults.specs.declared.Fault.{Fault}
use Rattle.faults.specs.Verdict.{number_of as fault_number}
use Rattle.mark.specs.Mark.{number_of as mark_number}
use Rattle.sheet.specs.declared.Sheet.{Sheet}

-- a number below 100 in decimal
abbrev pub decimal : ℕ → List ℕ
decimal n = cond (ltb n 10) ((48 + n) ∷ []) ((48 + n / 10) ∷ (48 + n % 10) ∷ [])

-- "refused N" and a newline
abbrev pub refused_text : ℕ → List ℕ
refused_text n = (114 ∷ 101 ∷ 102 ∷ 117 ∷ 115 ∷ 101 ∷ 100 ∷ 32 ∷ []) ++ decimal n ++ (10 ∷ [])

-- "model P answer Q mark N" and a newline, with 1 for possible and 0 for impossible
abbrev pub filled_text : (p q n : ℕ) → List ℕ
filled_text p q n =
    (109 ∷ 111 ∷ 100 ∷ 101 ∷ 108 ∷ 32 ∷ [])
    ++ decimal p
    ++ (32 ∷ 97 ∷ 110 ∷ 115 ∷ 119 ∷ 101 ∷ 114 ∷ 32 ∷ [])
    ++ decimal q
    ++ (32 ∷ 109 ∷ 97 ∷ 114 ∷ 107 ∷ 32 ∷ [])
    ++ decimal n
    ++ (10 ∷ [])

abbrev pub text_of : Result Sheet Fault → List ℕ
text_of (Ok sheet) = filled_text (bit sheet.model) (bit sheet.answer) (mark_number sheet.mark)
text_of (Err f) = refused_text (fault_number f)
