-- Exactly one mark fits a model and an answer: two that fit are the same, and it cannot be that none does. So "exactly when" holds in both
-- directions of what a mark says.
use mathlib.Core.Path.{◌≡◌, refl, sym, ap, ap₂, ◌∙◌}
use mathlib.Core.Logic.{◌↔◌}
use mathlib.Core.Bool.{Bool, true, false, cond, true≢false}
use mathlib.Core.List.{[], ◌∷◌}
use Prim.Native.Nat.{ℕ}
use lib.ListN.{get_or}
use Rattle.semantics.specs.Formula.{Formula}
use Rattle.semantics.specs.Truth.{Satisfiable}
use Rattle.semantics.specs.Answer.{Answers}
use Rattle.mark.specs.declared.Mark.{Mark}
use Rattle.mark.specs.Mark.{Same, Inside, Beyond, MarkIs, number_of}

true_unless : (b : Bool) → (b ≡ false → ⊥) → b ≡ true
true_unless true h = refl
true_unless false h = absurd (h refl)

both_ways : (a b : Bool) → (a ≡ true → b ≡ true) → (b ≡ true → a ≡ true) → a ≡ b
both_ways true b f g = sym (f refl)
both_ways false true f g = g refl
both_ways false false f g = refl

module _ {φ ψ : Formula} where
  pub inside_of : (Beyond φ ψ → ⊥) → Inside φ ψ
  inside_of none s w l h = true_unless _ (λ out. none (record { structure = s; world = w; inside = l; holds = h; fails = out }))

  inside_not : Inside φ ψ → Beyond φ ψ → ⊥
  inside_not all one = true≢false (sym (all one.structure one.world one.inside one.holds) ∙ one.fails)

  pub beyond_possible : Beyond φ ψ → Satisfiable φ
  beyond_possible one = record { structure = one.structure; world = one.world; inside = one.inside; holds = one.holds }

pub same_of : {φ ψ : Formula} → (Beyond φ ψ → ⊥) → (Beyond ψ φ → ⊥) → Same φ ψ
same_of one other s w l = both_ways _ _ (inside_of one s w l) (inside_of other s w l)

same_not : {φ ψ : Formula} → Same φ ψ → Beyond φ ψ → ⊥
same_not same one = true≢false (sym one.holds ∙ same one.structure one.world one.inside ∙ one.fails)

same_not_back : {φ ψ : Formula} → Same φ ψ → Beyond ψ φ → ⊥
same_not_back same one = true≢false (sym one.holds ∙ sym (same one.structure one.world one.inside) ∙ one.fails)

-- what a mark tells: is the answer possible; is it true somewhere without the model; is it possible and the model true somewhere without it
told : Mark → Bool × Bool × Bool
told Mark.Equal = (true, false, false)
told Mark.Narrower = (true, false, true)
told Mark.Wider = (true, true, false)
told Mark.Crossing = (true, true, true)
told Mark.Impossible = (false, false, false)

from : (possible gained lost : Bool) → Mark
from possible gained lost = cond possible (cond gained (cond lost Mark.Crossing Mark.Wider) (cond lost Mark.Narrower Mark.Equal)) Mark.Impossible

from_told : (x : Mark) → from (told x).0 (told x).1 (told x).2 ≡ x
unfolding from told
from_told Mark.Equal = refl
from_told Mark.Narrower = refl
from_told Mark.Wider = refl
from_told Mark.Crossing = refl
from_told Mark.Impossible = refl

one_answer : (P : Type 0) (a b : Bool) → Answers a P → Answers b P → a ≡ b
one_answer P true true p q = refl
one_answer P true false p q = absurd (q p)
one_answer P false true p q = absurd (p q)
one_answer P false false p q = refl

module _ (model answer : Formula) where
  says : (x : Mark) → MarkIs model answer x
      → Answers (told x).0 (Satisfiable answer) × Answers (told x).1 (Beyond answer model) × Answers (told x).2 (Satisfiable answer × Beyond model answer)
  unfolding told
  says Mark.Equal (sat, same) = (sat, same_not_back same, λ both. same_not same both.1)
  says Mark.Narrower (sat, inside, lost) = (sat, inside_not inside, (sat, lost))
  says Mark.Wider (sat, inside, gained) = (sat, gained, λ both. inside_not inside both.1)
  says Mark.Crossing (sat, gained, lost) = (sat, gained, (sat, lost))
  says Mark.Impossible none = (none, λ gained. none (beyond_possible gained), λ both. none both.0)

  pub mark_unique : (x y : Mark) → MarkIs model answer x → MarkIs model answer y → x ≡ y
  mark_unique x y fits also =
      let possible = one_answer _ (told x).0 (told y).0 (says x fits).0 (says y also).0 in
      let gained = one_answer _ (told x).1 (told y).1 (says x fits).1 (says y also).1 in
      let lost = one_answer _ (told x).2 (told y).2 (says x fits).2 (says y also).2 in
      sym (from_told x) ∙ ap (λ (p : Bool). from p (told x).1 (told x).2) possible ∙ ap₂ (from (told y).0) gained lost ∙ from_told y

  pub mark_some : ((x : Mark) → MarkIs model answer x → ⊥) → ⊥
  mark_some none =
      none Mark.Impossible
      (λ sat.
      let not_lost : Beyond model answer → ⊥ = λ l. none Mark.Narrower (sat, inside_of (λ g. none Mark.Crossing (sat, g, l)), l) in
      let not_gained : Beyond answer model → ⊥ = λ g. none Mark.Wider (sat, inside_of not_lost, g) in
      none Mark.Equal (sat, same_of not_lost not_gained))

  -- a mark that fits comes out exactly when it is the one that fits
  pub mark_exactly : (x : Mark) → MarkIs model answer x → (y : Mark) → MarkIs model answer y ↔ (y ≡ x)
  mark_exactly x fits y = (λ also. mark_unique y x also fits, λ same. rw same fits)

-- marks are told apart by their numbers
mark_of : ℕ → Mark
mark_of n = get_or (Mark.Equal ∷ Mark.Narrower ∷ Mark.Wider ∷ Mark.Crossing ∷ []) n Mark.Impossible

mark_of_number : (x : Mark) → mark_of (number_of x) ≡ x
unfolding mark_of
mark_of_number Mark.Equal = refl
mark_of_number Mark.Narrower = refl
mark_of_number Mark.Wider = refl
mark_of_number Mark.Crossing = refl
mark_of_number Mark.Impossible = refl

pub same_mark : (x y : Mark) → number_of x ≡ number_of y → x ≡ y
same_mark x y e = sym (mark_of_number x) ∙ ap mark_of e ∙ mark_of_number y
