-- The steps to an outcome: what clashes at once, which parts come first, and the entry itself put in.
use Rattle.std.specs.Prelude.{◌≡◌, Bool, true, false, cond, not, ◌&&◌, ◌||◌, ℕ, eqb}
use Rattle.sets.specs.Set.{member}
use Rattle.table.specs.declared.entry.Entry.{Entry}
use Rattle.tableau.specs.Wants.{added_if, NoSameFact}
use Rattle.wants.specs.declared.Wants.{Wants}
use Rattle.wants.specs.declared.Step.{Step}
use Rattle.wants.specs.Outcome.{wanted_w, Refuted, OutcomeIs}

-- w' is w with entry e wanted b, and pending if o is true
pub record Put (b o : Bool) (e : ℕ) (w w' : Wants) : Type 0 where
  pub yes : member w'.yes ≡ added_if b (member w.yes) e
  pub no : member w'.no ≡ added_if (not b) (member w.no) e
  pub pending : member w'.pending ≡ added_if o (member w.pending) e

-- is it the fact of this name
abbrev pub names_fact : Entry → ℕ → Bool
names_fact e name = eqb e.kind 2 && eqb e.name name

module _ (entry : ℕ → Entry) where
  -- an entry of the set is the fact of this name
  pub record HasFact (p : ℕ → Bool) (name : ℕ) : Type 0 where
    pub at : ℕ
    pub inside : p at ≡ true
    pub fact : names_fact (entry at) name ≡ true

  -- nothing but its parts stands against entry e being b
  pub record Free (b : Bool) (e : ℕ) (w : Wants) : Type 0 where
    pub constant : (entry e).kind ≡ cond b 1 0 → ⊥
    pub fact : NoSameFact entry (wanted_w w (not b)) e
    pub least : (entry e).kind ≡ 6 → b || not (eqb (entry e).grade 0) ≡ true

  -- a clash at once, or none
  abbrev pub ClashIs : Bool → ℕ → Wants → Bool → Type 0
  ClashIs b e w true = Refuted entry b e w
  ClashIs b e w false = Free b e w

  -- the outcome, or the parts that come first: that of a not the other way, both of an and that is wanted true, or of an or that is wanted false
  abbrev pub StepIs : ℕ → Bool → ℕ → Wants → Step → Type 0
  StepIs n b e w (Step.Done outcome) = OutcomeIs entry n b e w outcome
  StepIs n b e w (Step.Turned first) = ((entry e).kind ≡ 3) × (first ≡ (entry e).first)
  StepIs n b e w (Step.Both first second) = ((entry e).kind ≡ cond b 4 5) × (first ≡ (entry e).first) × (second ≡ (entry e).second)
