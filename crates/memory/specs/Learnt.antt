-- What is known of a question from others: where no world is as a few entries want, none is that wants more.
use Rattle.std.specs.Prelude.{◌≡◌, ℕ, Bool, true, false, Option, Some, None}
use Rattle.sets.specs.Set.{member, added, either}
use Rattle.table.specs.declared.entry.Entry.{Entry}
use Rattle.tableau.specs.Wants.{Sat}
use Rattle.memory.specs.declared.learnt.Ruled.{Ruled}

-- no world is as a question wants that also makes such an entry true, or false
pub record Never (entry : ℕ → Entry) (yes no : ℕ → Bool) (r : Ruled) : Type 0 where
  pub never_true : (i : ℕ) → member r.yes i ≡ true → Sat entry (added yes i) no → ⊥
  pub never_false : (i : ℕ) → member r.no i ≡ true → Sat entry yes (added no i) → ⊥

-- what is known of a question: that, or no world is as it wants
abbrev pub RuledIs : (ℕ → Entry) → (yes no : ℕ → Bool) → Option Ruled → Type 0
RuledIs entry ts fs (Some r) = Never entry ts fs r
RuledIs entry ts fs None = Sat entry ts fs → ⊥

-- some world is as a question wants, with more entries true, or more of them false
abbrev pub SatWith : (ℕ → Entry) → (yes no more : ℕ → Bool) → (truth : Bool) → Type 0
SatWith entry ts fs more true = Sat entry (either more ts) fs
SatWith entry ts fs more false = Sat entry ts (either more fs)

-- what is known is still so, with what follows where no world is as a question wants that has what is missing so besides
pub record MissingIs (known : Ruled) (missing : ℕ → Bool) (truth : Bool) (r : Option Ruled) : Type 0 where
  pub ruled : (entry : ℕ → Entry) (yes no : ℕ → Bool) → Never entry yes no known → (SatWith entry yes no missing truth → ⊥) → RuledIs entry yes no r
