-- Words whose first ones are worked in, and then cleared.
use mathlib.Core.Path.{◌≡◌, sym, ap, ◌∙◌}
use mathlib.Core.List.{List, ◌++◌}
use Prim.Native.Nat.{ℕ, ◌+◌, ◌-◌, ◌≤◌}
use native.Mathlib.Omega.{arith}
use lib.ListN.{length, get_or, take, drop}
use lib.Seq.{length_front, length-take-le, get_or-append-add, get_or-drop}
use Rattle.decision.specs.Call.{Cleared}

module _ (n : ℕ) (front before : List ℕ) (as_many : length front ≡ length (take n before)) (room : n ≤ length before) where
  -- behind other words in place of the first n, all is as before
  behind : (i : ℕ) → n ≤ i → get_or (front ++ drop n before) i 0 ≡ get_or before i 0
  behind i h =
      let e : length front + (i - n) ≡ i = omega (arith, as_many, length-take-le n before room) in
      let f : n + (i - n) ≡ i = omega arith in
      ap (λ (k : ℕ). get_or (front ++ drop n before) k 0) (sym e) ∙ get_or-append-add front (drop n before) (i - n) 0 ∙ get_or-drop n before (i - n) 0 ∙ ap (λ (k : ℕ). get_or before k 0) f

  pub cleared_over : {after : List ℕ} → Cleared n (front ++ drop n before) after → Cleared n before after
  cleared_over cleared = record {
    same_length = cleared.same_length ∙ length_front before front n as_many;
    zero = cleared.zero;
    rest = λ i h. cleared.rest i h ∙ behind i h;
  }
