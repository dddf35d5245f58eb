-- The counting entries that are wanted, and the question that one of them asks about its relation.
use Rattle.std.specs.Prelude.{◌≡◌, Bool, true, ◌||◌, ℕ, ◌<◌, ◌≤◌}
use Rattle.sets.specs.Set.{member}
use Rattle.table.specs.declared.entry.Entry.{Entry}
use Rattle.tableau.specs.Counting.{need, limit}
use Rattle.counting.specs.declared.question.Question.{Question}
use Rattle.wants.specs.declared.Wants.{Wants}
use Rattle.wants.specs.Outcome.{wanted_w}

-- is entry i, with the fields e, a need or a limit
abbrev pub counting : Wants → Entry → ℕ → Bool
counting w e i = need (member w.yes) (member w.no) e i || limit (member w.yes) (member w.no) e i

-- there are no more entries than a set has room for, and only entries are wanted
pub record Bounded (n : ℕ) (w : Wants) : Type 0 where
  pub few : n ≤ 64
  pub below : (b : Bool) (i : ℕ) → wanted_w w b i ≡ true → i < n

pub record QuestionOf (e : Entry) (w : Wants) (q : Question) : Type 0 where
  pub yes : q.yes ≡ w.yes
  pub no : q.no ≡ w.no
  pub relation : q.relation ≡ e.name
