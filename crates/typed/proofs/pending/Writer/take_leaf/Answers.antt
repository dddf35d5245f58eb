-- `take_leaf` meets its contract.
use Rattle.typed.proofs.Taking.{leaf_took}
use Rattle.typed.proofs.pending.Writer.take_leaf.Goals as goal

pub returns : goal.returns
returns c = leaf_took _ _ _ _ _ _ _ (rw c.leaf_entry.ensures at c.put.ensures.put) c.put.ensures.is c.settle.ensures
