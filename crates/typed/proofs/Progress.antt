-- All signs of a text are taken, one after the other: what the loop knows.
use mathlib.Core.Path.{◌≡◌, refl, sym, ap, ◌∙◌}
use mathlib.Core.Bool.{false, ◌||◌}
use mathlib.Core.List.{List, [], ◌∷◌, ◌++◌, append_assoc, append-nil}
use Prim.Native.Nat.{ℕ, ◌+◌, ◌*◌, ◌≤◌}
use native.Mathlib.Omega.{arith}
use lib.Dec.{ltb}
use lib.ListN.{length}
use borrow.Author.Tests.{ltb-false}
use Rattle.faults.proofs.Each.{neither}
use Rattle.postorder.specs.Order.{size}
use Rattle.grammar.specs.declared.Sign.{Sign}
use Rattle.grammar.specs.declared.lexer.Lexed.{Lexed}
use Rattle.grammar.specs.declared.lexer.Found.{Found}
use Rattle.grammar.specs.Text.{Signs}
use Rattle.grammar.specs.Tree.{Tree, signs, formula}
use Rattle.grammar.specs.Lexed.{LexedIs}
use Rattle.grammar.specs.Measure.{over, any_over, weight, entries}
use Rattle.grammar.specs.Parser.{State, operand, operator, failed, step, run, rest, whole}
use Rattle.grammar.proofs.Reader.{run_append, ends}
use Rattle.typed.specs.declared.pending.Writer.{Writer}
use Rattle.typed.specs.Held.{Waits, Holding, At, Behind}
use Rattle.typed.specs.Steps.{Blank, Ready, Took, Goes, Settled}
use Rattle.typed.specs.Written.{over_limit, Written}
use Rattle.grammar.specs.Fits.{Fits}
use Rattle.typed.specs.Writing.{Writable}
use Rattle.typed.proofs.Taking.{behind_more, behind_then}
use Rattle.typed.proofs.Counted.{entries_append, entries_size, small_here, small_cut}

-- the limits, one by one
pub record Within (text : List ℕ) (t : Tree) : Type 0 where
  pub short : length text ≤ 1024
  pub small : any_over (signs t) ≡ false
  pub few : size (formula t) ≤ 64

pub within : (text : List ℕ) (t : Tree) → over_limit text t ≡ false → Within text t
within text t none =
    let first = neither (ltb 1024 (length text) || any_over (signs t)) (ltb 64 (size (formula t))) none in
    let both = neither (ltb 1024 (length text)) (any_over (signs t)) first.0 in
    record { short = ltb-false _ _ both.0; small = both.1; few = ltb-false _ _ first.1 }

-- signs up to a place are taken, and the others are ahead
pub record Writing (text before : List ℕ) (t : Tree) (table : List ℕ) (writer : Writer) (at : ℕ) : Type 0 where
  pub seen : List Sign
  pub later : List Sign
  pub all : signs t ≡ seen ++ later
  pub ahead : Signs text at later
  pub held : At writer.stack table writer.pending writer.depth writer.entries (run (operand []) seen)
  pub total : writer.entries + writer.pending ≡ entries seen
  pub behind : Behind (size (formula t)) before table
  pub shallow : writer.depth ≤ at
  pub inside : at ≤ length text

-- all signs are taken
pub record Wrote (text before after : List ℕ) (writer : Writer) : Type 0 where
  pub tree : Tree
  pub fits : Fits text tree
  pub at : At writer.stack after writer.pending writer.depth writer.entries (run (operand []) (signs tree))
  pub total : writer.entries + writer.pending ≡ size (formula tree)
  pub few : size (formula tree) ≤ 64
  pub lent : 4 * size (formula tree) ≤ length after
  pub behind : Behind (size (formula tree)) before after

run_failed : (ss : List Sign) → run failed ss ≡ failed
unfolding run step
run_failed [] = refl
run_failed (s ∷ ss) = run_failed ss

module _ (text before : List ℕ) (w : Writable text before) where
  limits : Within text w.tree
  limits = within text w.tree w.limits

  pub none_taken : {writer : Writer} → Blank writer → Writing text before w.tree before writer 0
  unfolding At Waits run entries
  none_taken blank =
      record {
        seen = [];
        later = signs w.tree;
        all = refl;
        ahead = w.fits.signs;
        held = (blank.pending, blank.depth, blank.entries);
        total = omega (arith, blank.entries, blank.pending);
        behind = record { as_long = refl; same = λ i h. refl };
        shallow = omega (arith, blank.depth);
        inside = omega arith;
      }

  module _ {table : List ℕ} {writer : Writer} {at : ℕ} (so : Writing text before w.tree table writer at) where
    -- the next sign
    module _ (f : Found) (found : LexedIs text at (Lexed.Found f)) where
      ahead_is : (more : List Sign) × (so.later ≡ found.0 ∷ more) × Signs text f.next more
      ahead_is = (found.2 so.later).0 so.ahead

      all_is : signs w.tree ≡ so.seen ++ found.0 ∷ ahead_is.0
      all_is = so.all ∙ ap (λ (ss : List Sign). so.seen ++ ss) ahead_is.1

      small : over found.0 ≡ false
      small = small_here so.seen ahead_is.0 found.0 (rw all_is at limits.small)

      same_sign : f.sign ≡ found.0
      same_sign = found.1 ∙ small_cut found.0 small

      room : writer.entries + writer.pending + weight found.0 ≤ size (formula w.tree)
      unfolding entries
      room =
          let all-entries = sym (entries_size w.tree) ∙ ap entries all_is ∙ entries_append so.seen (found.0 ∷ ahead_is.0) in
          omega (arith, all-entries, so.total)

      pub ready : Ready f.sign table writer
      ready =
          rw same_sign
          (record {
            few = omega (arith, room, limits.few);
            lent = omega (arith, room, w.lent, so.behind.as_long);
            small = small;
            shallow = omega (arith, so.shallow, so.inside, limits.short);
          })

      not_failed : step (run (operand []) so.seen) found.0 ≡ failed → ⊥
      unfolding run
      not_failed fails =
          let end = ends w.tree w.fits.grouped in
          let out : operator end.0 end.1 ≡ failed =
          sym end.2 ∙ ap (run (operand [])) all_is ∙ run_append (operand []) so.seen (found.0 ∷ ahead_is.0)
          ∙ ap (λ (σ : State). run σ ahead_is.0) fails
          ∙ run_failed ahead_is.0 in
          let z : ◌≡◌ {A = ℕ} 0 1 = cc in
          omega arith

      pub goes : Goes f.sign table writer
      goes = rw same_sign (record { state = run (operand []) so.seen; at = so.held; goes = not_failed })

      -- and what it leaves
      module _ (after : List ℕ) (r : Writer) (took : Took f.sign table after writer r) where
        pub one_more : Writing text before w.tree after r f.next
        unfolding run entries
        one_more =
            let taken : Took found.0 table after writer r = rw same_sign at took in
            let state_is : run (operand []) (so.seen ++ (found.0 ∷ [])) ≡ step (run (operand []) so.seen) found.0 =
            run_append (operand []) so.seen (found.0 ∷ []) in
            record {
              seen = so.seen ++ (found.0 ∷ []);
              later = ahead_is.0;
              all = all_is ∙ simp append_assoc;
              ahead = ahead_is.2;
              held = rw state_is (taken.holds (run (operand []) so.seen) so.held not_failed);
              total = taken.total ∙ omega (arith, so.total, entries_append so.seen (found.0 ∷ []));
              behind = behind_then so.behind (behind_more room taken.behind);
              shallow = omega (arith, taken.shallow, so.shallow, found.3);
              inside = found.4;
            }

    -- no sign is left
    all_taken : so.later ≡ [] → Wrote text before table writer
    all_taken none =
        let all : signs w.tree ≡ so.seen = so.all ∙ ap (λ (ss : List Sign). so.seen ++ ss) none ∙ append-nil so.seen in
        record {
          tree = w.tree;
          fits = w.fits;
          at = rw all so.held;
          total = so.total ∙ ap entries (sym all) ∙ entries_size w.tree;
          few = limits.few;
          lent = omega (arith, w.lent, so.behind.as_long);
          behind = so.behind;
        }

    pub ended : (r : Lexed) → LexedIs text at r → ((f : Found) → r ≡ Lexed.Found f → ⊥) → Wrote text before table writer
    ended (Lexed.Found f) is other = absurd (other f refl)
    ended Lexed.End is other = all_taken ((is so.later).0 so.ahead)
    ended Lexed.Bad is other = absurd (is so.later so.ahead)

-- the last signs take their operands: the table is written
pub all_written : (text before between after : List ℕ) (writer r : Writer) (wrote : Wrote text before between writer)
    → Settled 0 between after writer r → (t : Tree) → t ≡ wrote.tree → Written t before after
unfolding At Waits rest whole
all_written text before between after writer r wrote settled t same =
    let end = ends wrote.tree wrote.fits.grouped in
    let held : Holding writer.stack between writer.pending writer.depth writer.entries end.0 end.1 = rw end.2 at wrote.at in
    let h : Holding r.stack after r.pending r.depth r.entries [] wrote.tree = rw (end.3, end.4) at (settled.holds end.0 end.1 held) in
    rw same
    (record {
      as_long = settled.behind.as_long ∙ wrote.behind.as_long;
      entries = rw h.frames.2 at h.top;
      behind = λ i l. settled.behind.same i (omega (arith, wrote.total)) ∙ wrote.behind.same i l;
    })

-- an operand is there
pub some_entry : (text before table : List ℕ) (writer : Writer) → Wrote text before table writer → 1 ≤ writer.entries
unfolding At
some_entry text before table writer wrote =
    let end = ends wrote.tree wrote.fits.grouped in
    let held : Holding writer.stack table writer.pending writer.depth writer.entries end.0 end.1 = rw end.2 at wrote.at in
    omega (arith, held.count)
