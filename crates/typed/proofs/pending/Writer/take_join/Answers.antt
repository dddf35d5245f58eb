-- `take_join` meets its contract.
use mathlib.Core.Path.{◌≡◌, ap, ◌∙◌}
use Prim.Native.Nat.{ℕ}
use native.Mathlib.Omega.{arith}
use Rattle.table.specs.declared.entry.Entry.{Entry}
use Rattle.grammar.specs.declared.Join.{Join}
use Rattle.grammar.specs.Tree.{rank}
use Rattle.typed.specs.Held.{entry_of_join, rank_of}
use Rattle.typed.proofs.Entries.{join_rank}
use Rattle.typed.proofs.Taking.{join_packable, join_took}
use Rattle.typed.proofs.pending.Writer.take_join.Goals as goal

-- the rank that is asked for is the sign's
ranked : (j : Join) {e : Entry} {r : ℕ} → e ≡ entry_of_join j 0 0 → r ≡ rank_of e.kind → r ≡ rank j
ranked j entry ranks = ranks ∙ ap (λ (e : Entry). rank_of e.kind) entry ∙ join_rank j 0 0

pub push-requires : goal.push-requires
push-requires c =
    let total = c.settle.ensures.total in
    (rw c.join_entry-2.ensures (join_packable c.args.join _ (omega (arith, c.requires.0.few, total))), omega (arith, c.requires.0.few, total))

pub returns : goal.returns
returns c =
    join_took _ _ _ _ _ c.args.join _ (omega arith) c.requires.1
    (rw (ranked c.args.join c.join_entry.ensures c.rank_of.ensures) at c.settle.ensures)
    (rw c.join_entry-2.ensures at c.push.ensures)
