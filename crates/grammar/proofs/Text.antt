-- The signs of a text, one after the other: at most one sign stands at a place, and the text's signs begin with it.
use mathlib.Core.Path.{◌≡◌, refl, sym, ap, ap₂, ◌∙◌}
use mathlib.Core.Logic.{by_cases, ◌↔◌}
use mathlib.Core.Bool.{Bool, true, false, cond, ◌||◌}
use mathlib.Core.List.{List, [], ◌∷◌}
use Rattle.std.specs.Prelude.{Option, Some, None}
use Prim.Native.Nat.{ℕ, min, ◌+◌, ◌<◌, ◌≤◌}
use native.Mathlib.Decide.{dec_lt}
use native.Mathlib.Omega.{arith}
use borrow.Author.Rules.{rules}
use lib.Dec.{eqb, ltb}
use borrow.Author.Tests.{lt-ltb, le-ltb}
use lib.ListN.{length, get_or, get_or-eq_default}
use Rattle.numerals.specs.Numeral.{Digit}
use Rattle.numerals.specs.declared.Number.{Number}
use Rattle.numerals.specs.Number.{Whole, NumberIs}
use Rattle.numerals.proofs.Digits.{whole_unique}
use Rattle.grammar.specs.declared.Leaf.{Leaf}
use Rattle.grammar.specs.declared.Prefix.{Prefix}
use Rattle.grammar.specs.declared.Join.{Join}
use Rattle.grammar.specs.declared.Sign.{Sign}
use Rattle.grammar.specs.declared.lexer.Lexed.{Lexed}
use Rattle.grammar.specs.declared.lexer.Pair.{Pair}
use Rattle.grammar.specs.Text.{Form, byte, numbered, paired, form, Spaces, Numbered, Paired, Spelt, Signs}
use Rattle.grammar.specs.Lexed.{Skipped, Ends, StandsIs, Next, RelationIs, PairIs, lead_of, counting_of, LexedIs}

-- no digit stands at a place
abbrev Stops : List ℕ → ℕ → Type 0
Stops text i = Digit (get_or text i 0) → ⊥

-- behind spaces stands the first byte that is none
spaces_unique : {text : List ℕ} {i j k : ℕ} → Spaces text i j → (get_or text j 0 ≡ 32 → ⊥) → Spaces text i k → (get_or text k 0 ≡ 32 → ⊥) → j ≡ k
spaces_unique {text} {i} {j} {k} s other s' other' =
    let low : j ≤ k = by_cases (dec_lt k j) (λ l. absurd (other' (s.all k s'.within l))) (λ g. omega arith) in
    let high : k ≤ j = by_cases (dec_lt j k) (λ l. absurd (other (s'.all j s.within l))) (λ g. omega arith) in
    omega arith

-- one space more
pub another_space : {text : List ℕ} {i j : ℕ} → Spaces text i j → get_or text j 0 ≡ 32 → Spaces text i (j + 1)
another_space {text} {i} {j} s e =
    record {
      within = omega (arith, s.within);
      all = λ k low high. by_cases (dec_lt k j) (λ l. s.all k low l) (λ g. let here : k ≡ j = omega arith in rw here e);
    }

-- with spaces, or none, before it, what is no digit is none still
before_no_digit : {text : List ℕ} {i j : ℕ} → Spaces text i j → Stops text j → Stops text i
before_no_digit {text} {i} {j} s stop digit =
    by_cases (dec_lt i j) (λ l. omega (arith, s.all i (omega arith) l)) (λ g. let e : i ≡ j = omega (arith, s.within) in stop (rw (sym e) digit))

-- behind the text stands nothing
behind : (text : List ℕ) → get_or text (length text) 0 ≡ 0
behind text = get_or-eq_default text 0 (omega arith)

-- spaces up to a place that is not in the text
pub to_end : {text : List ℕ} {i j : ℕ} → Skipped text i j → length text ≤ j → Spaces text i (length text)
to_end {text} {i} {j} skipped past = let e : j ≡ length text = omega (arith, skipped.inside) in rw e at skipped.spaces

-- numbers that no digit follows
pub whole_number : {text : List ℕ} {i j b n : ℕ} → Numbered text i j b n → Stops text j → Whole text (i + 1) j n
whole_number p stop = record { numeral = p.number; last = stop }

whole_grade : {text : List ℕ} {i j b n r : ℕ} (p : Paired text i j b n r) → Whole text (i + 2) p.end n
whole_grade p = record { numeral = p.grade; last = before_no_digit p.spaces (λ d. omega (arith, p.relation.first)) }

paired_unique : {text : List ℕ} {i j j' b b' n n' r r' : ℕ} → Paired text i j b n r → Stops text j → Paired text i j' b' n' r' → Stops text j'
    → (n ≡ n') × (r ≡ r') × (j ≡ j')
paired_unique {text} p stop p' stop' =
    let grades = whole_unique (whole_grade p) (whole_grade p') in
    let spaces' : Spaces text p.end p'.next = rw grades.0 p'.spaces in
    let nexts = spaces_unique p.spaces (λ e. omega (arith, p.relation.first)) spaces' (λ e. omega (arith, p'.relation.first)) in
    let relation' : Whole text (p.next + 1) _ _ = rw (sym nexts) at (whole_number p'.relation stop') in
    let relations = whole_unique (whole_number p.relation stop) relation' in
    (grades.1, relations.1, relations.0)

-- A form has a first byte and a shape. A sign is known by its form, and the shape of its form by the first byte.
abbrev lead : Form → ℕ
lead (byte b) = b
lead (numbered b n) = b
lead (paired b n r) = b

abbrev shape : Form → ℕ
shape (byte b) = 0
shape (numbered b n) = 1
shape (paired b n r) = 2

abbrev shape_by : ℕ → ℕ
shape_by b = cond (eqb b 110) 1 (cond (eqb b 62) 2 (cond (eqb b 60) 2 0))

abbrev single : ℕ → Sign
single b =
    cond (eqb b 84) (Sign.Alone Leaf.True) (cond (eqb b 70) (Sign.Alone Leaf.False)
    (cond (eqb b 33) (Sign.Before Prefix.Not) (cond (eqb b 38) (Sign.Between Join.And)
    (cond (eqb b 124) (Sign.Between Join.Or) (cond (eqb b 40) Sign.Open Sign.Close)))))

abbrev sign_of : Form → Sign
sign_of (byte b) = single b
sign_of (numbered b n) = Sign.Alone (Leaf.Fact n)
sign_of (paired b n r) = Sign.Before (cond (eqb b 62) (Prefix.AtLeast n r) (Prefix.AtMost n r))

record Known (s : Sign) : Type 0 where
  back : sign_of (form s) ≡ s
  shaped : shape (form s) ≡ shape_by (lead (form s))
  visible : 32 < lead (form s)
  no_digit : Digit (lead (form s)) → ⊥

known : (s : Sign) → Known s
known (Sign.Alone Leaf.True) = search rules
known (Sign.Alone Leaf.False) = search rules
known (Sign.Alone (Leaf.Fact n)) = search rules
known (Sign.Before Prefix.Not) = search rules
known (Sign.Before (Prefix.AtLeast n r)) = search rules
known (Sign.Before (Prefix.AtMost n r)) = search rules
known (Sign.Between Join.And) = search rules
known (Sign.Between Join.Or) = search rules
known Sign.Open = search rules
known Sign.Close = search rules

module _ (text : List ℕ) where
  -- a sign begins with its first byte
  first : (i j : ℕ) (f : Form) → Spelt text i j f → get_or text i 0 ≡ lead f
  first i j (byte b) p = p.0
  first i j (numbered b n) p = p.first
  first i j (paired b n r) p = p.first

  -- one sign at most stands at a place
  one_form : (i j k : ℕ) (f g : Form) → shape f ≡ shape g → lead f ≡ lead g → Spelt text i j f → Ends text j f → Spelt text i k g → Stops text k
      → (f ≡ g) × (j ≡ k)
  one_form i j k (byte b) (byte b') alike e p ends q stop = (ap byte e, omega arith)
  one_form i j k (byte b) (numbered b' n') alike e p ends q stop = absurd (omega arith)
  one_form i j k (byte b) (paired b' n' r') alike e p ends q stop = absurd (omega arith)
  one_form i j k (numbered b n) (byte b') alike e p ends q stop = absurd (omega arith)
  one_form i j k (numbered b n) (numbered b' n') alike e p ends q stop =
      let (places, numbers) = whole_unique (whole_number p ends) (whole_number q stop) in
      (rw (e, numbers) refl, places)
  one_form i j k (numbered b n) (paired b' n' r') alike e p ends q stop = absurd (omega arith)
  one_form i j k (paired b n r) (byte b') alike e p ends q stop = absurd (omega arith)
  one_form i j k (paired b n r) (numbered b' n') alike e p ends q stop = absurd (omega arith)
  one_form i j k (paired b n r) (paired b' n' r') alike e p ends q stop =
      let (grades, relations, places) = paired_unique p ends q stop in
      (rw (e, grades, relations) refl, places)

  one_sign : (i j k : ℕ) (s t : Sign) → Spelt text i j (form s) → Ends text j (form s) → Spelt text i k (form t) → Stops text k
      → (s ≡ t) × (j ≡ k)
  one_sign i j k s t p ends q stop =
      let leads : lead (form s) ≡ lead (form t) = sym (first i j (form s) p) ∙ first i k (form t) q in
      let shapes : shape (form s) ≡ shape (form t) = (known s).shaped ∙ ap shape_by leads ∙ sym (known t).shaped in
      let (forms, places) = one_form i j k (form s) (form t) shapes leads p ends q stop in
      (sym (known s).back ∙ ap sign_of forms ∙ (known t).back, places)

  -- a sign takes room, and its first byte gives its shape
  longer : (i j : ℕ) (f : Form) → Spelt text i j f → i < j
  longer i j (byte b) p = omega arith
  longer i j (numbered b n) p = omega (arith, p.number.some)
  longer i j (paired b n r) p = omega (arith, p.grade.some, p.spaces.within, p.relation.number.some)

  shaped_by : (i k : ℕ) {b : ℕ} (s : Sign) → get_or text i 0 ≡ b → Spelt text i k (form s) → shape (form s) ≡ shape_by b
  shaped_by i k s e spelt = (known s).shaped ∙ ap shape_by (sym (first i k (form s) spelt) ∙ e)

  -- signs begin with no digit
  pub no_digit_first : (i : ℕ) (ss : List Sign) → Signs text i ss → Stops text i
  unfolding Signs
  no_digit_first i [] p = before_no_digit p (λ d. omega (arith, behind text))
  no_digit_first i (s ∷ ss) (j, k, spaces, spelt, later) = before_no_digit spaces (λ d. (known s).no_digit (rw (sym (first j k (form s) spelt)) d))

  -- a sign's first byte is no space
  other : (i j : ℕ) (s : Sign) → Spelt text i j (form s) → get_or text i 0 ≡ 32 → ⊥
  other i j s spelt e = omega (arith, first i j (form s) spelt, (known s).visible)

  -- where only spaces follow there is no sign
  no_sign : (i j k : ℕ) (s : Sign) → Spaces text i (length text) → Spaces text i j → Spelt text j k (form s) → ⊥
  no_sign i j k s all spaces spelt =
      let end : length text ≡ j = spaces_unique all (λ e. omega (arith, behind text)) spaces (other j k s spelt) in
      let none : get_or text j 0 ≡ 0 = rw (sym end) (behind text) in
      omega (arith, first j k (form s) spelt, (known s).visible)

  -- The next sign, the text's end, and what begins no sign.
  pub found : (i j k : ℕ) (s : Sign) → Spaces text i j → Spelt text j k (form s) → Ends text k (form s) → Next text i k s
  unfolding Signs
  found i j k s spaces spelt ends ss = (there ss, λ (later, e, p). rw e (j, k, spaces, spelt, p))
    where
      there : (ss : List Sign) → Signs text i ss → (later : List Sign) × (ss ≡ s ∷ later) × Signs text k later
      there [] p = absurd (no_sign i j k s p spaces spelt)
      there (t ∷ ts) (j', k', spaces', spelt', later) =
          let here : j ≡ j' = spaces_unique spaces (other j k s spelt) spaces' (other j' k' t spelt') in
          let (signs, places) = one_sign j' k k' s t (rw here at spelt) ends spelt' (no_digit_first k' ts later) in
          (ts, rw signs refl, rw places later)

  pub ended : (i : ℕ) → Spaces text i (length text) → (ss : List Sign) → Signs text i ss ↔ (ss ≡ [])
  unfolding Signs
  ended i all [] = (λ p. refl, λ e. all)
  ended i all (s ∷ ss) = (
    λ (j, k, spaces, spelt, later). absurd (no_sign i j k s all spaces spelt),
    λ e. let z : ◌≡◌ {A = ℕ} 0 1 = cc in absurd (omega arith),
  )

  none : (i j : ℕ) → Skipped text i j → j < length text → StandsIs text j Lexed.Bad → (ss : List Sign) → Signs text i ss → ⊥
  unfolding Signs
  none i j skipped in_it bad [] all =
      let end : j ≡ length text = spaces_unique skipped.spaces skipped.other all (λ e. omega (arith, behind text)) in
      omega arith
  none i j skipped in_it bad (s ∷ ss) (j', k, spaces, spelt, later) =
      let here : j' ≡ j = spaces_unique spaces (other j' k s spelt) skipped.spaces skipped.other in
      bad k s (rw here at spelt) (no_digit_first k ss later)

  pub lexed : (i j : ℕ) → Skipped text i j → j < length text → (r : Lexed) → StandsIs text j r → LexedIs text i r
  lexed i j skipped in_it (Lexed.Found f) (sign, same, spelt, ends, high, bigs) =
      (sign, same, found i j f.next sign skipped.spaces spelt ends, omega (arith, skipped.spaces.within, longer j f.next (form sign) spelt), high, bigs)
  lexed i j skipped in_it Lexed.End stands = absurd stands
  lexed i j skipped in_it Lexed.Bad bad = none i j skipped in_it bad

  -- a counting pair: a grade, and behind spaces a relation
  pub pair : (i end at n value : ℕ) → get_or text (i + 1) 0 ≡ 61 → Whole text (i + 2) end n → value ≡ min n 256 → Skipped text end at
      → (r : Option Pair) → RelationIs text at value r → PairIs text i r
  pair i end at n value equals grade cut skipped (Some p) (same, relation, read, spelt, stop, high) = (
    n,
    relation,
    same ∙ cut,
    read,
    record { end = end; next = at; first = refl; equals = equals; grade = grade.numeral; spaces = skipped.spaces; relation = spelt },
    stop,
    high,
  )
  pair i end at n value equals grade cut skipped None none =
      λ k lead n' relation p stop.
      let ends = (whole_unique (whole_grade p) grade).0 in
      let nexts = spaces_unique (rw ends at p.spaces) (λ e. omega (arith, p.relation.first)) skipped.spaces skipped.other in
      none k relation (rw nexts at p.relation) stop

-- a number over 255 may be read as 256
pub over_cut : (n : ℕ) → ltb 255 (min n 256) ≡ ltb 255 n
over_cut n =
    by_cases (dec_lt 255 n) (λ l. lt-ltb 255 (min n 256) (omega arith) ∙ sym (lt-ltb 255 n l))
    (λ g. le-ltb 255 (min n 256) (omega arith) ∙ sym (le-ltb 255 n (omega arith)))

-- a counting pair, by its first byte
pub counted : (text : List ℕ) (i : ℕ) (q : Pair) (least : Bool) {p : Prefix} {big : Bool} → PairIs text i (Some q) → get_or text i 0 ≡ lead_of least
    → p ≡ counting_of least q.grade q.relation → big ≡ ltb 255 q.grade || ltb 255 q.relation
    → StandsIs text i (Lexed.Found (record { sign = Sign.Before p; next = q.end; over = big }))
counted text i q least {p} {big} (n, m, grade, relation, spelt, stop, high) lead is bigs = go least lead is
  where
    overs : ltb 255 q.grade || ltb 255 q.relation ≡ ltb 255 n || ltb 255 m
    overs = rw (grade, relation) (ap₂ ◌||◌ (over_cut n) (over_cut m))

    go : (least : Bool) → get_or text i 0 ≡ lead_of least → p ≡ counting_of least q.grade q.relation
        → StandsIs text i (Lexed.Found (record { sign = Sign.Before p; next = q.end; over = big }))
    go true lead is = (Sign.Before (Prefix.AtLeast n m), rw (is, grade, relation) refl, rw lead at spelt, stop, high, bigs ∙ overs)
    go false lead is = (Sign.Before (Prefix.AtMost n m), rw (is, grade, relation) refl, rw lead at spelt, stop, high, bigs ∙ overs)

-- a fact
pub fact : (text : List ℕ) (i : ℕ) (name : Number) → get_or text i 0 ≡ 110 → NumberIs text (i + 1) 255 (Some name)
    → StandsIs text i (Lexed.Found (record { sign = Sign.Alone (Leaf.Fact name.value); next = name.end; over = ltb 255 name.value }))
fact text i name first (n, whole, value, high) = (
  Sign.Alone (Leaf.Fact n),
  rw value refl,
  record { first = first; number = whole.numeral },
  whole.last,
  high,
  ap (ltb 255) value ∙ over_cut n,
)
