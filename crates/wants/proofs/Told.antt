-- The test for a kind of entry is that of its number.
use mathlib.Core.Path.{◌≡◌, refl, sym, ◌∙◌}
use mathlib.Core.Bool.{true}
use Prim.Native.Nat.{ℕ, ◌≤◌}
use native.Mathlib.Omega.{arith}
use lib.Dec.{eqb}
use borrow.Author.Tests.{eqb-true, ne_eqb}
use denote.Enum.Bare.{sameb}
use denote.Enum.Declared.{tag_of}
use Rattle.std.specs.Prelude.{Option, Some, None, IfSome, IfNone}
use Rattle.std.specs.Option.{option_eq}
use Rattle.table.specs.declared.kind.Kind.{Kind}
use Rattle.table.specs.contracts.kind.Kind.{the_type}
use Rattle.table.specs.Kind.{kind_number}

tag_number : (k : Kind) → tag_of the_type k ≡ kind_number k
tag_number = elim [
  | Kind.True ↦ refl
  | Kind.False ↦ refl
  | Kind.Fact ↦ refl
  | Kind.Not ↦ refl
  | Kind.And ↦ refl
  | Kind.Or ↦ refl
  | Kind.AtLeast ↦ refl
  | Kind.AtMost ↦ refl
]

number_small : (k : Kind) → kind_number k ≤ 7
number_small = elim [
  | Kind.True ↦ omega arith
  | Kind.False ↦ omega arith
  | Kind.Fact ↦ omega arith
  | Kind.Not ↦ omega arith
  | Kind.And ↦ omega arith
  | Kind.Or ↦ omega arith
  | Kind.AtLeast ↦ omega arith
  | Kind.AtMost ↦ omega arith
]

pub kind_told : (number : ℕ) (o : Option Kind) (k : Kind) → IfSome o (λ kind. number ≡ kind_number kind) → IfNone o (8 ≤ number)
    → option_eq (sameb the_type) o (Some k) ≡ eqb number (kind_number k)
kind_told number (Some j) k known unknown = rw (known, ← tag_number j, ← tag_number k) refl
kind_told number None k known unknown = sym (ne_eqb _ _ (λ e. omega (arith, number_small k)))

pub kind_is : (number : ℕ) (o : Option Kind) (k : Kind) → IfSome o (λ kind. number ≡ kind_number kind) → IfNone o (8 ≤ number)
    → true ≡ option_eq (sameb the_type) o (Some k) → number ≡ kind_number k
kind_is number o k known unknown so = eqb-true _ _ (sym (so ∙ kind_told number o k known unknown))
