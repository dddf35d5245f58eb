-- What a yes-or-no answer says. Contracts of functions that answer a question are stated by it.
use Rattle.std.specs.Prelude.{Bool, true, false}

-- what a yes-or-no answer says of a question
abbrev pub Answers : Bool → Type 0 → Type 0
Answers true P = P
Answers false P = P → ⊥
