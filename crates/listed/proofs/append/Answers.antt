-- `append` meets its contract: one store.
use Rattle.listed.proofs.Codes.{appended}
use Rattle.listed.proofs.append.Goals as goal

pub returns : goal.returns
returns c = rw c.code.ensures (appended _ _ _ _ c.requires)
