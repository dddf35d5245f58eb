-- What is read tells of the whole input.
use Rattle.std.proofs.Common.{rules}
use Rattle.sheet.proofs.Whole.{read_told}
use Rattle.sheet.proofs.program.line_for.Goals as goal

pub returns : goal.returns
returns g c = read_told _ c.read.new.room c.in_ok-length.length _ (search rules) c.in_ok-length.ensures.bytes c.sheet_of.ensures
