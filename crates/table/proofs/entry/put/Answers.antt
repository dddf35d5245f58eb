-- `put` meets its contract: what four bytes spell is the packed entry, and the bytes of the entries before it are as they were.
use mathlib.Core.Path.{◌≡◌, ap, ◌∙◌}
use mathlib.Core.List.{List}
use Prim.Native.Nat.{ℕ, ◌*◌}
use native.Mathlib.Omega.{arith}
use Rattle.packed.specs.Bytes.{Put}
use Rattle.packed.proofs.Bytes.{same_bytes}
use Rattle.table.specs.declared.entry.Entry.{Entry}
use Rattle.table.specs.Entry.{entry_of, word_in, PutEntry}
use Rattle.table.proofs.entry.put.Goals as goal

put_entry : (i word : ℕ) (e : Entry) (before after : List ℕ) → entry_of word ≡ e → Put (4 * i) 4 word before after → PutEntry i e before after
unfolding word_in
put_entry i word e before after packs p =
    record {
      as_long = p.as_long;
      there = ap entry_of p.spelt ∙ packs;
      in_front = λ j h. ap entry_of (same_bytes after before (4 * j) 4 (λ k l m. p.in_front k (omega arith)));
      behind = p.behind;
    }

pub returns : goal.returns
returns c = put_entry _ _ _ _ _ c.pack.ensures c.put.ensures
