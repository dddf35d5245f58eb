-- `wide_at` meets its contract: it takes apart the word that it reads.
use Rattle.wide.proofs.wide_at.Goals as goal

pub returns : goal.returns
returns c = cc
