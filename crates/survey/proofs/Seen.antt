-- What a survey knows of a text whose signs it has read up to a place, and what it finds at the end.
use mathlib.Core.Path.{◌≡◌, refl, sym, ap, ◌∙◌}
use mathlib.Core.Logic.{◌↔◌}
use mathlib.Core.Bool.{Bool, true, false, ◌||◌, or-false, or_assoc}
use mathlib.Core.List.{List, [], ◌∷◌, ◌++◌, append_assoc, append-nil}
use Rattle.std.specs.Prelude.{Some, None}
use Prim.Native.Nat.{ℕ, ◌+◌, ◌≤◌}
use native.Mathlib.Omega.{arith}
use lib.Dec.{eqb}
use lib.ListN.{length}
use borrow.Author.Tests.{eqb-true, eqb-false}
use Rattle.grammar.specs.declared.Sign.{Sign}
use Rattle.grammar.specs.declared.lexer.Lexed.{Lexed}
use Rattle.grammar.specs.declared.lexer.Found.{Found}
use Rattle.grammar.specs.Text.{Signs}
use Rattle.grammar.specs.Lexed.{Next, LexedIs}
use Rattle.grammar.specs.Tree.{Tree, signs}
use Rattle.grammar.specs.Fits.{Fits}
use Rattle.grammar.specs.Measure.{over, any_over, weight, entries}
use Rattle.grammar.specs.Parser.{State, operand, operator, failed, step, run, whole, opens}
use Rattle.grammar.proofs.Reader.{run_append, settle_opens, ends, tree_of}
use Rattle.survey.specs.declared.Mode.{Mode}
use Rattle.survey.specs.declared.Counted.{Counted}
use Rattle.survey.specs.Survey.{stepped, at_end, finished, SurveyIs}
use Rattle.survey.proofs.Stages.{Stage, Leads, leads, alike}

-- what is counted in one sign more
over_append : (ss : List Sign) (s : Sign) → any_over (ss ++ (s ∷ [])) ≡ any_over ss || over s
unfolding any_over
over_append [] s = or-false (over s)
over_append (x ∷ ss) s = ap (λ (b : Bool). over x || b) (over_append ss s) ∙ sym (or_assoc (over x) (any_over ss) (over s))

entries_append : (ss : List Sign) (s : Sign) → entries (ss ++ (s ∷ [])) ≡ entries ss + weight s
unfolding entries
entries_append [] s = omega arith
entries_append (x ∷ ss) s = omega (arith, entries_append ss s)

pub weight_low : (s : Sign) → weight s ≤ 1
weight_low (Sign.Alone l) = omega arith
weight_low (Sign.Before p) = omega arith
weight_low (Sign.Between j) = omega arith
weight_low Sign.Open = omega arith
weight_low Sign.Close = omega arith

-- what fits no tree never will
stays_failed : (ss : List Sign) → run failed ss ≡ failed
unfolding run step
stays_failed [] = refl
stays_failed (s ∷ ss) = stays_failed ss

-- the reader's state behind some signs
abbrev reader : List Sign → State
reader ss = run (operand []) ss

reader_more : (ss : List Sign) (s : Sign) → reader (ss ++ (s ∷ [])) ≡ step (reader ss) s
unfolding run
reader_more ss s = run_append (operand []) ss (s ∷ [])

-- the text's signs begin with these, and go on from a place
abbrev pub Begins : List ℕ → ℕ → List Sign → Type 0
Begins text at seen = (ss : List Sign) → Signs text 0 ss ↔ ((later : List Sign) × (ss ≡ seen ++ later) × Signs text at later)

begins_more : (text : List ℕ) (at k : ℕ) (seen : List Sign) (s : Sign) → Begins text at seen → Next text at k s
    → Begins text k (seen ++ (s ∷ []))
begins_more text at k seen s begins next ss = (
  λ p.
      let (later, e, q) = (begins ss).0 p in
      let (later', e', q') = (next later).0 q in
      (later', e ∙ ap (λ (l : List Sign). seen ++ l) e' ∙ sym (append_assoc seen (s ∷ []) later'), q'),
  λ (later, e, q). (begins ss).1 (s ∷ later, e ∙ append_assoc seen (s ∷ []) later, (next (s ∷ later)).1 (later, refl, q)),
)

-- what the survey holds is of the signs up to a place
pub record Seen (text : List ℕ) (at : ℕ) (mode : Mode) (counted : Counted) : Type 0 where
  pub seen : List Sign
  pub begins : Begins text at seen
  pub stage : Stage (reader seen) mode
  pub made : counted.entries ≡ entries seen
  pub bigs : counted.over ≡ any_over seen
  pub inside : at ≤ length text
  pub few : counted.entries ≤ at
  pub shallow : mode.depth ≤ at

pub none_seen : (text : List ℕ) → Seen text 0 (record { operand = true; depth = 0 }) (record { entries = 0; over = false })
unfolding run opens entries any_over
none_seen text =
    record {
      seen = [];
      begins = λ ss. (λ p. (ss, refl, p), λ (later, e, p). rw e p);
      stage = (refl, refl);
      made = refl;
      bigs = refl;
      inside = omega arith;
      few = omega arith;
      shallow = omega arith;
    }

module _ {text : List ℕ} {at : ℕ} {mode : Mode} {count : Counted} (h : Seen text at mode count) where
  -- a sign more
  pub one_more : (f : Found) (further : Mode) → LexedIs text at (Lexed.Found f) → stepped mode f.sign ≡ Some further
      → Seen text f.next further (record { entries = count.entries + weight f.sign; over = count.over || f.over })
  one_more f further (sign, is, next, low, high, bigs) e =
      let same = alike mode sign in
      let to : stepped mode sign ≡ Some further = sym same.steps ∙ ap (stepped mode) (sym is) ∙ e in
      let stage : Leads mode.depth (step (reader h.seen) sign) (Some further) = rw to at (leads (reader h.seen) mode sign h.stage) in
      let weighs : weight f.sign ≡ weight sign = ap weight is ∙ same.weighs in
      record {
        seen = h.seen ++ (sign ∷ []);
        begins = begins_more text at f.next h.seen sign h.begins next;
        stage = rw (reader_more h.seen sign) stage.0;
        made = omega (arith, weighs, h.made, entries_append h.seen sign);
        bigs = rw (bigs, h.bigs) (sym (over_append h.seen sign));
        inside = high;
        few = omega (arith, h.few, weight_low f.sign);
        shallow = omega (arith, h.shallow, stage.1);
      }

  -- a sign that leads nowhere
  pub nowhere : (f : Found) → LexedIs text at (Lexed.Found f) → stepped mode f.sign ≡ None → SurveyIs text None
  unfolding run
  nowhere f (sign, is, next, low, high, bigs) e t fits =
      let out : stepped mode sign ≡ None = sym (alike mode sign).steps ∙ ap (stepped mode) (sym is) ∙ e in
      let fails : step (reader h.seen) sign ≡ failed = rw out at (leads (reader h.seen) mode sign h.stage) in
      let (later, e, q) = (h.begins (signs t)).0 fits.signs in
      let (later', e', q') = (next later).0 q in
      let all : reader (signs t) ≡ failed =
      rw (e, e', run_append (operand []) h.seen (sign ∷ later'), fails) (stays_failed later') in
      let (fs, u, is-operator, rest, back) = ends t fits.grouped in
      let z : ◌≡◌ {A = ℕ} 0 1 = cc in
      absurd (omega arith)

  -- At the text's end: the signs seen are all of its signs.
  module _ (end : LexedIs text at Lexed.End) where
    whole_text : Signs text 0 h.seen
    whole_text = (h.begins h.seen).1 ([], rw append-nil refl, (end []).1 refl)

    -- a tree that fits ends behind an operand, with no bracket open
    behind_operand : (t : Tree) → Fits text t → (mode.operand ≡ false) × (mode.depth ≡ 0)
    unfolding opens
    behind_operand t fits =
        let (later, e, q) = (h.begins (signs t)).0 fits.signs in
        let same : signs t ≡ h.seen = rw (e, (end later).0 q) (append-nil h.seen) in
        let (fs, u, is, none, back) = ends t fits.grouped in
        let stage : Stage (operator fs u) mode = rw (ap reader (sym same) ∙ is) at h.stage in
        (stage.0, stage.1 ∙ sym (settle_opens 0 fs) ∙ ap opens none)

    -- the operand that was read is the text's tree
    tree : (σ : State) → reader h.seen ≡ σ → Stage σ mode → mode.operand ≡ false → mode.depth ≡ 0
        → SurveyIs text (Some count)
    tree (operand fs) is stage e none = let z : ◌≡◌ {A = ℕ} 0 1 = cc in absurd (omega arith)
    tree (operator fs t) is stage e none =
        let (grouped, spelt) = tree_of h.seen fs t is (sym stage.1 ∙ none) in
        (whole 0 fs t, record { signs = rw spelt whole_text; grouped = grouped }, rw spelt h.made, rw spelt h.bigs)
    tree failed is stage e none = absurd stage

    at_end_is : (waits shut : Bool) → mode.operand ≡ waits → eqb mode.depth 0 ≡ shut → SurveyIs text (at_end waits shut count)
    at_end_is true shut e f = λ t fits. let z : ◌≡◌ {A = ℕ} 0 1 = cc (behind_operand t fits).0 in absurd (omega arith)
    at_end_is false true e f = tree (reader h.seen) refl h.stage e (eqb-true _ _ f)
    at_end_is false false e f = λ t fits. eqb-false _ _ f (behind_operand t fits).1

  -- no sign follows
  pub finishes : (lexed : Lexed) → LexedIs text at lexed → ((f : Found) → lexed ≡ Lexed.Found f → ⊥)
      → SurveyIs text (finished lexed mode count)
  finishes (Lexed.Found f) is none = absurd (none f refl)
  finishes Lexed.End end none = at_end_is end mode.operand (eqb mode.depth 0) refl refl
  finishes Lexed.Bad bad none = λ t fits. bad _ ((h.begins (signs t)).0 fits.signs).2
