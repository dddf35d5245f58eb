use mathlib.Core.Path.{◌≡◌}
use native.Mathlib.Omega.{arith}
use lib.ListN.{length}
use Rattle.draft_bytes.proofs.Writing.{no_words, one_word}
use Rattle.draft_bytes.proofs.write_words.Goals as goal

pub loop-i-init : goal.loop-i-init
loop-i-init c = no_words _ _

pub loop-i-preserved : goal.loop-i-preserved
loop-i-preserved c = one_word _ _ _ _ _ _ c.loop-i.invariant c.from.ensures c.put.ensures

pub returns : goal.returns
returns c =
    let all : c.loop-i.i ≡ length c.args.words.now = omega arith in
    rw all at c.loop-i.invariant
