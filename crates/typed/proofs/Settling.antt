-- Waiting signs take their operands, one after the other: what the loop knows.
use mathlib.Core.Path.{◌≡◌, sym, ap, ◌∙◌}
use mathlib.Core.Bool.{true, false}
use mathlib.Core.List.{List}
use Prim.Native.Nat.{ℕ, ◌+◌, ◌<◌, ◌≤◌}
use native.Mathlib.Omega.{arith}
use Rattle.grammar.specs.Tree.{Tree}
use Rattle.grammar.specs.Parser.{Frame}
use Rattle.typed.specs.declared.pending.Writer.{Writer}
use Rattle.typed.specs.Held.{Holding, Behind}
use Rattle.typed.specs.Steps.{takes_now, Room, Closed, Settled}
use Rattle.typed.proofs.Entries.{takes_parts}
use Rattle.typed.proofs.Held.{Taken, closes, stays}

-- some of them have taken it
pub record Settling (b : ℕ) (before table : List ℕ) (writer here : Writer) : Type 0 where
  pub total : here.entries + here.pending ≡ writer.entries + writer.pending
  pub some : writer.entries ≤ here.entries
  pub depth : here.depth ≡ writer.depth
  pub behind : Behind (writer.entries + writer.pending) before table
  pub holds : (fs : List Frame) (t : Tree) → Holding writer.stack before writer.pending writer.depth writer.entries fs t
      → Taken b here.stack table here.pending here.depth here.entries fs t

module _ (b : ℕ) (before : List ℕ) (writer : Writer) where
  module _ {table : List ℕ} {here : Writer} (so : Settling b before table writer here) where
    pub room : Room before writer → Room table here
    room r = record { few = omega (arith, r.few, so.total); lent = omega (arith, r.lent, so.total, so.behind.as_long) }

    pub some_wait : takes_now here.stack here.pending here.depth b ≡ true → 0 < here.pending
    some_wait takes = (takes_parts here.stack here.pending here.depth b takes).0

    module _ (after : List ℕ) (next : Writer) (takes : takes_now here.stack here.pending here.depth b ≡ true) (closed : Closed table after here next) where
      pub fewer : next.pending < here.pending
      fewer = omega (arith, some_wait takes, ap (λ (p : Writer). p.pending) closed.is)

      pub one_more : Settling b before after writer next
      one_more =
          let waiting = some_wait takes in
          rw closed.is
          (record {
            total = omega (arith, so.total);
            some = omega (arith, so.some);
            depth = so.depth;
            behind =
                record {
                  as_long = closed.behind.as_long ∙ so.behind.as_long;
                  same = λ i h. closed.behind.same i (omega (arith, so.total)) ∙ so.behind.same i h;
                };
            holds =
                λ fs t h.
                let now = so.holds fs t h in
                let then =
                closes here.stack table after here.pending here.depth here.entries b takes closed.there (λ j l. sym (closed.in_front j l))
                now.frames now.top now.holding in
                record {
                  frames = then.frames;
                  top = then.top;
                  holding = then.holding;
                  rests = then.rests ∙ now.rests;
                  wholes = then.wholes ∙ now.wholes;
                };
          })

    pub all_settled : b ≤ 2 → takes_now here.stack here.pending here.depth b ≡ false → Settled b before table writer here
    all_settled low none =
        record {
          total = so.total;
          some = so.some;
          depth = so.depth;
          behind = so.behind;
          holds =
              λ fs t h.
              let now = so.holds fs t h in
              let stay =
              stays here.stack table table here.pending here.depth here.entries b now.frames now.top now.holding.base low none
              now.holding.frames in
              rw (sym now.rests, sym now.wholes, stay.0, stay.1) now.holding;
        }
