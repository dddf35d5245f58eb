-- A loop over digits: what it has read is a decimal number, and where it stops the numeral is whole. A place has one whole numeral.
use mathlib.Core.Path.{◌≡◌, refl, sym, ap, ◌∙◌}
use mathlib.Core.List.{List}
use Prim.Native.Nat.{ℕ, suc, min, ◌+◌, ◌*◌, ◌-◌, ◌<◌, ◌≤◌}
use mathlib.Core.Logic.{by_cases}
use Rattle.std.specs.Prelude.{Some, None}
use native.Mathlib.Decide.{dec_lt}
use native.Mathlib.Omega.{arith}
use lib.ListN.{length, get_or, get_or-eq_default}
use Rattle.numerals.specs.Numeral.{Digit, decimal}
use Rattle.numerals.specs.Number.{Whole, DigitIs}

-- a byte that is not 0 stands in the text
pub inside : (text : List ℕ) (i : ℕ) → 0 < get_or text i 0 → i < length text
inside text i h =
    by_cases (dec_lt i (length text)) (λ l. l)
    (λ g. let past : length text ≤ i = omega arith in absurd (omega (arith, get_or-eq_default text 0 past)))

-- cutting before a step or behind it is the same
cut : (n d limit : ℕ) → min (min n (suc limit) * 10 + d) (suc limit) ≡ min (n * 10 + d) (suc limit)
cut n d limit = omega arith

-- digits from `at` up to `end` were read
pub record Reading (text : List ℕ) (at limit value end : ℕ) : Type 0 where
  pub within : at ≤ end
  pub short : at < end → end ≤ length text
  pub digits : (i : ℕ) → at ≤ i → i < end → Digit (get_or text i 0)
  pub spelt : value ≡ min (decimal text at (end - at)) (suc limit)

module _ (text : List ℕ) (at limit : ℕ) where
  pub start : Reading text at limit 0 at
  unfolding decimal
  start =
      record {
        within = omega arith;
        short = λ h. omega arith;
        digits = λ i l h. absurd (omega arith);
        spelt = let e : at - at ≡ 0 = omega arith in rw e (omega arith);
      }

  module _ {value end : ℕ} (r : Reading text at limit value end) where
    -- one digit more
    module _ {digit : ℕ} (here : DigitIs (get_or text end 0) (Some digit)) where
      -- a digit stands in the text
      pub another : end < length text
      another = inside text end (omega (arith, here.1))

      pub more : (value' : ℕ) → value' ≡ min (value * 10 + digit) (suc limit) → Reading text at limit value' (end + 1)
      unfolding decimal
      more value' is =
          let width : end + 1 - at ≡ suc (end - at) = omega arith in
          let there : at + (end - at) ≡ end = omega arith in
          let in_it : end < length text = another in
          record {
            within = omega arith;
            short = λ l. omega arith;
            digits = λ i l u. by_cases (dec_lt i end) (λ h'. r.digits i l h') (λ n. let e : i ≡ end = omega arith in rw e (omega arith, omega arith));
            spelt =
                let digit_is : get_or text (at + (end - at)) 0 - 48 ≡ digit = rw there (omega arith) in
                rw (width, digit_is) (is ∙ ap (λ (v : ℕ). min (v * 10 + digit) (suc limit)) r.spelt ∙ cut (decimal text at (end - at)) digit limit);
          }

    -- The first digit is there, and where the loop stopped there is none.
    module _ {first : ℕ} (is : DigitIs (get_or text at 0) (Some first)) (stop : DigitIs (get_or text end 0) None) where
      some : at < end
      some = by_cases (dec_lt at end) (λ l. l) (λ g. let e : end ≡ at = omega arith in absurd (rw e at stop (omega arith, omega arith)))

      -- a leading zero
      pub leading_zero : first ≡ 0 → (end ≡ at + 1 → ⊥) → (e n : ℕ) → Whole text at e n → ⊥
      leading_zero zero-first longer e n whole =
          let alone : e ≡ at + 1 = whole.numeral.plain (omega arith) in
          whole.last (rw alone (r.digits (at + 1) (omega arith) (omega (arith, some))))

      -- a number
      pub whole_number : (first ≡ 0 → end ≡ at + 1)
          → (n : ℕ) × Whole text at end n × (value ≡ min n (suc limit)) × (end ≤ length text)
      whole_number zeros = (
        decimal text at (end - at),
        record {
          numeral = record { some = some; digits = r.digits; plain = λ z. zeros (omega arith); value = refl };
          last = stop;
        },
        r.spelt,
        r.short some,
      )

-- two whole numerals at one place are one
pub whole_unique : {text : List ℕ} {at e e' n n' : ℕ} → Whole text at e n → Whole text at e' n' → (e ≡ e') × (n ≡ n')
whole_unique {text} {at} {e} {e'} {n} {n'} w w' =
    let low : e ≤ e' =
    by_cases (dec_lt e' e) (λ l. absurd (w'.last (w.numeral.digits e' (omega (arith, w'.numeral.some)) l))) (λ g. omega arith) in
    let high : e' ≤ e =
    by_cases (dec_lt e e') (λ l. absurd (w.last (w'.numeral.digits e (omega (arith, w.numeral.some)) l))) (λ g. omega arith) in
    let same : e ≡ e' = omega arith in
    (same, w.numeral.value ∙ rw same (sym w'.numeral.value))
