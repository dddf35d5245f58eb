-- `at_least` meets its contract: at least none holds everywhere, and above that `enough` is asked.
use Rattle.truth_table.proofs.entry_word.Grid.at_least.Goals as goal

pub returns : goal.returns
returns c s relation p row h every = c.enough.ensures s relation p row h
