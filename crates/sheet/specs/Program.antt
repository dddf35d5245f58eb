-- The line that the mark sheet prints for what it reads: known bytes, or bytes that the reader's type does not say. Then it is still the
-- line of some sheet.
use Rattle.std.specs.Prelude.{List, ℕ, IfSome}
use Rattle.std.specs.declared.option.Option.{Option}
use Rattle.sheet.specs.declared.text.Line.{Line}
use Rattle.sheet.specs.Sheet.{SheetIs}

-- where the input is known, the line's sheet says that of it
abbrev pub Prints : Option (List ℕ) → Line → Type 0
Prints input line = IfSome input (λ bytes. SheetIs bytes line.0)
