-- Formulas that may stand for others: in every row of document 01's table of kinds a part may be changed for one that stands
-- for it, and a double negation, a constant or a repeated part may be left out.
use mathlib.Core.Path.{◌≡◌, refl, sym, subst, ap, ap₂, ◌∙◌, fun_ext}
use mathlib.Core.Bool.{Bool, true, false, not, ◌&&◌, ◌||◌, and-true, and_comm, or_comm, or-false, and_self, or_self, not-not}
use Prim.Native.Nat.{ℕ, max, ◌≤◌}
use native.Mathlib.Nat.{le_refl, le_trans, le-max_left, le-max_right, max-le, le_of_eq, max_comm}
use native.Mathlib.Omega.{arith}
use lib.Dec.{leb}
use lib.ListN.{get_or}
use Rattle.semantics.specs.Formula.{Formula, verum, falsum, neg, conj, disj, at_least, at_most, depth}
use Rattle.semantics.specs.Structure.{successors}
use Rattle.semantics.specs.Truth.{truth}
use Rattle.table.specs.declared.entry.Entry.{Entry}
use Rattle.table.specs.Formulas.{kinds, formula_of}
use Rattle.table.specs.Check.{uses_of}
use Rattle.table.proofs.Cases.{by_kind}
use Rattle.wide.specs.Wide.{StandsFor}

stands_itself : {φ : Formula} → StandsFor φ φ
stands_itself = record { same = λ s w. refl; shallow = le_refl _ }

pub stands_then : {φ χ ψ : Formula} → StandsFor φ χ → StandsFor χ ψ → StandsFor φ ψ
stands_then h k = record { same = λ s w. h.same s w ∙ k.same s w; shallow = le_trans h.shallow k.shallow }

stands_neg : {φ ψ : Formula} → StandsFor φ ψ → StandsFor (neg φ) (neg ψ)
unfolding truth depth
stands_neg h = record { same = λ s w. ap not (h.same s w); shallow = h.shallow }

max_both : {a b c d : ℕ} → a ≤ c → b ≤ d → max a b ≤ max c d
max_both h k = max-le (le_trans h (le-max_left _ _)) (le_trans k (le-max_right _ _))

-- an "and" for true, an "or" for false; and the constant that it may do without
abbrev pub join : Bool → Formula → Formula → Formula
join true φ ψ = conj φ ψ
join false φ ψ = disj φ ψ

abbrev pub constant : Bool → Formula
constant true = verum
constant false = falsum

stands_join : (b : Bool) {φ ψ φ' ψ' : Formula} → StandsFor φ φ' → StandsFor ψ ψ' → StandsFor (join b φ ψ) (join b φ' ψ')
unfolding truth depth
stands_join true h k = record { same = λ s w. ap₂ ◌&&◌ (h.same s w) (k.same s w); shallow = max_both h.shallow k.shallow }
stands_join false h k = record { same = λ s w. ap₂ ◌||◌ (h.same s w) (k.same s w); shallow = max_both h.shallow k.shallow }

stands_least : (m r : ℕ) {φ ψ : Formula} → StandsFor φ ψ → StandsFor (at_least m r φ) (at_least m r ψ)
unfolding truth depth
stands_least m r h =
    record { same = λ s w. ap (λ (p : ℕ → Bool). leb m (successors s r w p)) (fun_ext (h.same s)); shallow = omega (arith, h.shallow) }

stands_most : (m r : ℕ) {φ ψ : Formula} → StandsFor φ ψ → StandsFor (at_most m r φ) (at_most m r ψ)
unfolding truth depth
stands_most m r h =
    record { same = λ s w. ap (λ (p : ℕ → Bool). leb (successors s r w p) m) (fun_ext (h.same s)); shallow = omega (arith, h.shallow) }

-- rows of the same name and grade, if the parts that the row's kind uses may stand
kinds_stand : (ref ref' : ℕ → Formula) (e f : Entry) → f.name ≡ e.name → f.grade ≡ e.grade → (k : ℕ)
    → ((uses_of k).first ≡ true → StandsFor (ref f.first) (ref' e.first))
    → ((uses_of k).second ≡ true → StandsFor (ref f.second) (ref' e.second))
    → StandsFor (get_or (kinds ref f) k falsum) (get_or (kinds ref' e) k falsum)
unfolding kinds uses_of
kinds_stand ref ref' e f name grade =
    by_kind
    (λ k. ((uses_of k).first ≡ true → StandsFor (ref f.first) (ref' e.first))
    → ((uses_of k).second ≡ true → StandsFor (ref f.second) (ref' e.second))
    → StandsFor (get_or (kinds ref f) k falsum) (get_or (kinds ref' e) k falsum))
    (λ p q. stands_itself)
    (λ p q. stands_itself)
    (λ p q. rw name stands_itself)
    (λ p q. stands_neg (p refl))
    (λ p q. stands_join true (p refl) (q refl))
    (λ p q. stands_join false (p refl) (q refl))
    (λ p q. rw (name, grade) (stands_least _ _ (p refl)))
    (λ p q. rw (name, grade) (stands_most _ _ (p refl)))
    (λ k p q. stands_itself)

-- an entry may stand for one of the same kind, name and grade, if the parts that its kind uses may
pub entry_stands : (ref ref' : ℕ → Formula) (e f : Entry) → f.kind ≡ e.kind → f.name ≡ e.name → f.grade ≡ e.grade
    → ((uses_of e.kind).first ≡ true → StandsFor (ref f.first) (ref' e.first))
    → ((uses_of e.kind).second ≡ true → StandsFor (ref f.second) (ref' e.second))
    → StandsFor (formula_of ref f) (formula_of ref' e)
unfolding formula_of
entry_stands ref ref' e f kind name grade first second =
    subst (λ (k : ℕ). StandsFor (get_or (kinds ref f) k falsum) (formula_of ref' e)) (sym kind) (kinds_stand ref ref' e f name grade e.kind first second)

pub undouble : (φ : Formula) → StandsFor φ (neg (neg φ))
unfolding truth depth
undouble φ = record { same = λ s w. sym (not-not _); shallow = le_refl _ }

pub join_turned : (b : Bool) (φ ψ : Formula) → StandsFor (join b φ ψ) (join b ψ φ)
unfolding truth depth
join_turned true φ ψ = record { same = λ s w. and_comm (truth s φ w) (truth s ψ w); shallow = le_of_eq (max_comm (depth φ) (depth ψ)) }
join_turned false φ ψ = record { same = λ s w. or_comm (truth s φ w) (truth s ψ w); shallow = le_of_eq (max_comm (depth φ) (depth ψ)) }

pub join_neutral : (b : Bool) (φ : Formula) → StandsFor φ (join b φ (constant b))
unfolding truth depth
join_neutral true φ = record { same = λ s w. sym (and-true _); shallow = le-max_left _ _ }
join_neutral false φ = record { same = λ s w. sym (or-false _); shallow = le-max_left _ _ }

pub join_decided : (b : Bool) (ψ : Formula) → StandsFor (constant (not b)) (join b (constant (not b)) ψ)
unfolding truth depth
join_decided true ψ = record { same = λ s w. refl; shallow = le-max_left _ _ }
join_decided false ψ = record { same = λ s w. refl; shallow = le-max_left _ _ }

pub join_same : (b : Bool) (φ : Formula) → StandsFor φ (join b φ φ)
unfolding truth depth
join_same true φ = record { same = λ s w. sym (and_self _); shallow = le-max_left _ _ }
join_same false φ = record { same = λ s w. sym (or_self _); shallow = le-max_left _ _ }
