-- Document 02, P7, from the promises of the calls: the board matches the structure in which every world stands four times; drawings with no copies read
-- as before; possible and every mark are as they are without copies.
use mathlib.Core.Path.{◌≡◌, sym, ap, ◌∙◌}
use mathlib.Core.Logic.Iff
use mathlib.Core.Logic.{◌↔◌}
use mathlib.Core.Bool.{Bool}
use mathlib.Core.List.{List}
use Prim.Native.Nat.{ℕ, ◌+◌, ◌*◌, ◌<◌}
use lib.Dec.{ltb}
use lib.ListN.{length, get_or}
use Rattle.semantics.specs.Structure.{Structure}
use Rattle.semantics.specs.Truth.{truth}
use Rattle.semantics.specs.Plain.{Plain, plain_truth, PlainSatisfiable, single, fourfold}
use Rattle.semantics.proofs.Plain.{single_truth, fourfold_truth, satisfiable_plain}
use Rattle.sets.specs.Word.{bit_at, word}
use Rattle.sets.proofs.Words.{bit_word, word_ext}
use Rattle.faults.specs.declared.Fault.{Fault}
use Rattle.faults.specs.declared.Fault.TheVariants.{Space}
use Rattle.faults.specs.Verdict.{Verdict, accepted, refuse_if, and_then}
use Rattle.table.specs.declared.entry.Entry.{Entry}
use Rattle.table.specs.Entry.{entry_in, size}
use Rattle.table.specs.Formulas.{formula_at}
use Rattle.table.specs.Check.{table_verdict}
use Rattle.structure.specs.Read.{structure_of}
use Rattle.structure.specs.Plain.{NoCopies, plain_verdict, plain_structure}
use Rattle.structure.proofs.Plain.{verdict_plain, structure_plain}
use Rattle.truth_table.specs.Board.{truth_word, board_verdict, Filled, BoardAfter}
use Rattle.decision.specs.Decide.{number_of as decided, decide_verdict, DecisionIs}
use Rattle.decision.specs.Call.{pair_verdict}
use Rattle.mark.specs.declared.Mark.{Mark}
use Rattle.mark.specs.Mark.{number_of as mark_number, marking_number, MarkingIs}
use Rattle.mark.specs.Plain.{PlainMarkIs}
use Rattle.mark.proofs.Plain.{plain_mark}
use Rattle.std.specs.Prelude.{Result}
use Rattle.hurnavis.proofs.Demands.{decision_possible, mark_exactly}

-- where every link has one copy, a word is that of the structure without copies
single_word : (s : Plain) (entry : ℕ → Entry) (i : ℕ) → truth_word (single s) entry i ≡ word (plain_truth s (formula_at entry i)) s.worlds
unfolding single
single_word s entry i = word_ext s.worlds (λ w l. single_truth s (formula_at entry i) w l)

-- before P7 a call was refused so
abbrev pub plain_board_verdict : List ℕ → List ℕ → ℕ → Verdict
plain_board_verdict bytes packed words = and_then (table_verdict bytes) (and_then (plain_verdict packed) (refuse_if (ltb words (size bytes)) Space))

module _ (bytes packed before after : List ℕ) (r : Verdict) (is : r ≡ board_verdict bytes packed (length before)) (done : BoardAfter bytes packed before r after)
  where
    -- For a call without a fault: bit w of word i is the truth of entry i at each of the four standings of w.
    pub board_fourfold : board_verdict bytes packed (length before) ≡ accepted → (i : ℕ) → i < size bytes → (w k : ℕ) → w < (structure_of packed).worlds → k < 4
        → bit_at (get_or after i 0) w ≡ plain_truth (fourfold (structure_of packed)) (formula_at (entry_in bytes) i) (4 * w + k)
    board_fourfold ok i inside w k l b =
        let filled : Filled (structure_of packed) (entry_in bytes) (size bytes) before after = rw (is ∙ ok) at done in
        let φ = formula_at (entry_in bytes) i in
        ap (λ (a : ℕ). bit_at a w) (filled.table i inside) ∙ bit_word (truth (structure_of packed) φ) l ∙ sym (fourfold_truth (structure_of packed) φ w k l b)

    -- A drawing with no copies is refused for the same as before, and gives the same words.
    pub board_plain : NoCopies packed → (r ≡ plain_board_verdict bytes packed (length before))
        × (board_verdict bytes packed (length before) ≡ accepted → (i : ℕ) → i < size bytes
        → get_or after i 0 ≡ word (plain_truth (plain_structure packed) (formula_at (entry_in bytes) i)) (plain_structure packed).worlds)
    board_plain bare = (
      is ∙ ap (λ (v : Verdict). and_then (table_verdict bytes) (and_then v (refuse_if (ltb (length before) (size bytes)) Space))) (verdict_plain packed bare),
      λ ok i inside.
          let filled : Filled (structure_of packed) (entry_in bytes) (size bytes) before after = rw (is ∙ ok) at done in
          filled.table i inside ∙ ap (λ (s : Structure). truth_word s (entry_in bytes) i) (structure_plain packed bare) ∙ single_word (plain_structure packed) (entry_in bytes) i,
    )

-- A call without a fault answers 1, possible, exactly when some finite structure without copies has a world where the entry is true.
pub decision_plain : (bytes : List ℕ) (e : ℕ) (before after : List ℕ) (r : Result Bool Fault) → DecisionIs bytes e before after r
    → decide_verdict bytes e (length before) ≡ accepted → (decided r ≡ 1) ↔ PlainSatisfiable (formula_at (entry_in bytes) e)
decision_plain bytes e before after r is ok = Iff.trans (decision_possible bytes e before after r is ok) (satisfiable_plain (formula_at (entry_in bytes) e))

-- It answers the number of a mark exactly when that mark fits by structures without copies.
pub mark_plain : (bytes : List ℕ) (model answer : ℕ) (before after : List ℕ) (r : Result Mark Fault) → MarkingIs bytes model answer before after r
    → pair_verdict bytes model answer (length before) ≡ accepted
    → (m : Mark) → (marking_number r ≡ mark_number m) ↔ PlainMarkIs (formula_at (entry_in bytes) model) (formula_at (entry_in bytes) answer) m
mark_plain bytes model answer before after r is ok m = Iff.trans (mark_exactly bytes model answer before after r is ok m) (plain_mark _ _ m)
