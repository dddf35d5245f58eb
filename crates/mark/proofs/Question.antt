-- The question that the mark asks about two entries, and what the answer says of their formulas.
use mathlib.Core.Bool.{Bool, true, false}
use Prim.Native.Nat.{ℕ}
use Rattle.sets.specs.Set.{nothing, added}
use Rattle.table.specs.declared.entry.Entry.{Entry}
use Rattle.table.specs.Formulas.{formula_at}
use Rattle.semantics.specs.Answer.{Answers}
use Rattle.tableau.specs.Wants.{Sat}
use Rattle.decision.proofs.Question.{only_one, has_one}
use Rattle.mark.specs.Mark.{Beyond}

module _ (entry : ℕ → Entry) (a b : ℕ) where
  pub pair_answer : (r : Bool) → Answers r (Sat entry (added nothing a) (added nothing b)) → Answers r (Beyond (formula_at entry a) (formula_at entry b))
  pair_answer true sat = record {
    structure = sat.structure;
    world = sat.world;
    inside = sat.inside;
    holds = sat.meets.as_wanted true a (has_one a);
    fails = sat.meets.as_wanted false b (has_one b);
  }
  pair_answer false none = λ one. none (record {
    structure = one.structure;
    world = one.world;
    inside = one.inside;
    meets = record { as_wanted = elim [ true ↦ λ i h. rw (only_one a i h) one.holds | false ↦ λ i h. rw (only_one b i h) one.fails ] };
  })
