-- `fill` meets its contract: where the mark is refused, so is the sheet; else the decision of the model has its words, and the mark tells of the answer.
use Rattle.sheet.proofs.fill.Goals as goal

pub returns : goal.returns
returns c =
    let told = c.in-Ok.ensures in
    (told.0, c.possible-model.ensures, c.possible.ensures _ _ told.1, told.1)
