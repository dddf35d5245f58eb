-- The laws of words, each over every width. A number is cut at a bit into what stands above it and what stands below, and the library's laws
-- of such cuts carry the rest: the bits of a number, the operations on them, and the count of those that are set.
use mathlib.Core.Path.{◌≡◌, refl, sym, ap, ap₂, ◌∙◌}
use mathlib.Core.Bool.{Bool, true, false, not, ◌&&◌, ◌||◌}
use mathlib.Core.Logic.{by_cases}
use Prim.Native.Nat.{ℕ, zero, suc, ◌+◌, ◌-◌, ◌*◌, ◌/◌, ◌%◌, ◌^◌, ◌≤◌, ◌<◌, zero-le}
use native.Mathlib.Nat.{le_refl, lt_of_lt_of_le, lt_of_le_of_lt, mod-lt, mod-one, mod_self, mod-eq_of_lt, div_self, div-eq_of_lt, div-eq_of_lt-le, one-mul, pow-succ', two-pow-succ}
use native.Mathlib.Decide.{le_ind, dec_lt}
use native.Mathlib.Numerals.{one-add}
use native.Mathlib.Omega.{arith}
use lib.Arith.{digits_lt}
use lib.Bits.{bit_and, bit_or, and_le_l, and_shr, and_mod, and_lt, or_shr, or_mod, or_lt, or_shifted_r}
use lib.Count.{ones, ones_cat, count_leading_zeros, leading_top}
use lib.Dec.{eqb, lit<}
use lib.Pow.{pow_pos, pow_mono, pow-lt, high, low, field, mod-pow-add, mod-mod-pow}
use borrow.Author.Tests.{eq-eqb, ne_eqb}
use Rattle.semantics.specs.Count.{bit, count}
use Rattle.sets.specs.Word.{bit_at, word, Greatest}

-- ---- a digit: 0 or 1

bit_lt : (b : Bool) → bit b < 2
bit_lt true = lit< tt
bit_lt false = lit< tt

bit_eqb : (b : Bool) → eqb (bit b) 1 ≡ b
bit_eqb true = refl
bit_eqb false = refl

eqb_bit : (x : ℕ) → x < 2 → x ≡ bit (eqb x 1)
eqb_bit zero h = refl
eqb_bit (suc zero) h = refl
eqb_bit (suc (suc x)) h = absurd (omega arith)

-- ---- the bits of a number

-- the digit i is the bit i
pub digit_bit : (a i : ℕ) → a / 2 ^ i % 2 ≡ bit (bit_at a i)
unfolding bit_at
digit_bit a i = eqb_bit (a / 2 ^ i % 2) (mod-lt (a / 2 ^ i) (lit< tt))

-- a number has no bits from its width on
pub bit_high : {a w i : ℕ} → a < 2 ^ w → w ≤ i → bit_at a i ≡ false
unfolding bit_at
bit_high h l = ap (λ (x : ℕ). eqb (x % 2) 1) (div-eq_of_lt (lt_of_lt_of_le h (pow_mono l)))

pub bit_zero : (i : ℕ) → bit_at 0 i ≡ false
bit_zero i = bit_high (pow_pos 0) zero-le

-- the bits below n are those of the remainder by 2 ^ n
pub bit_mod : (a : ℕ) {i n : ℕ} → i < n → bit_at (a % 2 ^ n) i ≡ bit_at a i
unfolding bit_at
bit_mod a {i} {n} h =
    let cut : n ≡ n - suc i + 1 + i = omega arith in
    rw cut (ap (λ (x : ℕ). eqb (x % 2) 1) (field a (n - suc i + 1) i) ∙ ap (λ (x : ℕ). eqb x 1) (mod-mod-pow (a / 2 ^ i) (n - suc i) 1))

pub bit_pow : (k i : ℕ) → bit_at (2 ^ k) i ≡ eqb i k
unfolding bit_at
bit_pow k i =
    by_cases (dec_lt i k)
    (λ (l : i < k). sym (bit_mod (2 ^ k) l) ∙ ap (λ (x : ℕ). bit_at x i) (mod_self (2 ^ k)) ∙ bit_zero i ∙ sym (ne_eqb i k (omega arith)))
    (λ (g : ¬ (i < k)).
    by_cases (dec_lt k i) (λ (l : k < i). bit_high (pow-lt l) (le_refl i) ∙ sym (ne_eqb i k (omega arith)))
    (λ (h : ¬ (k < i)).
    let same : i ≡ k = omega arith in
    rw same (ap (λ (x : ℕ). eqb (x % 2) 1) (div_self (pow_pos k)) ∙ sym (eq-eqb k k refl))))

-- `1 << k`, where k is below the width
pub bit_shl : {k w : ℕ} → k < w → (i : ℕ) → bit_at (1 * 2 ^ k % 2 ^ w) i ≡ eqb i k
bit_shl {k} {w} h i = rw (one-mul (2 ^ k), mod-eq_of_lt (pow-lt h)) (bit_pow k i)

-- the place of the highest bit: the zeros above it, the bit itself and the bits below it make the width
pub highest_bit : (w : ℕ) {a : ℕ} → zero < a → a < 2 ^ w → Greatest (bit_at a) (w - 1 - count_leading_zeros w a)
unfolding bit_at
highest_bit w {a} pos h =
    let t = leading_top w a pos h in
    let j = t.0 in
    let place : w - 1 - count_leading_zeros w a ≡ j = omega (arith, t.1) in
    let once : a / 2 ^ j ≡ 1 = div-eq_of_lt-le (2 ^ j) (omega (arith, t.2)) (omega (arith, t.3, two-pow-succ j)) in
    rw place (record { here = ap (λ (x : ℕ). eqb (x % 2) 1) once; above = λ i l. bit_high t.3 l })

-- ---- the operations, bit by bit: each works on the digits from i on, and there on the lowest

module _ (op : ℕ → ℕ → ℕ) (f : Bool → Bool → Bool)
    (shr : (a b k : ℕ) → op a b / 2 ^ k ≡ op (a / 2 ^ k) (b / 2 ^ k))
    (rem : (a b k : ℕ) → op a b % 2 ^ k ≡ op (a % 2 ^ k) (b % 2 ^ k))
    (on-bits : (b c : Bool) → op (bit b) (bit c) ≡ bit (f b c)) where
  bit_op : (a b i : ℕ) → bit_at (op a b) i ≡ f (bit_at a i) (bit_at b i)
  unfolding bit_at
  bit_op a b i =
      ap (λ (x : ℕ). eqb x 1)
      (ap (λ (x : ℕ). x % 2) (shr a b i) ∙ rem (a / 2 ^ i) (b / 2 ^ i) 1 ∙ ap₂ op (digit_bit a i) (digit_bit b i)
      ∙ on-bits (bit_at a i) (bit_at b i))
      ∙ bit_eqb (f (bit_at a i) (bit_at b i))

and_bits : (b c : Bool) → bit_and (bit b) (bit c) ≡ bit (b && c)
and_bits true true = refl
and_bits true false = refl
and_bits false c = refl

or_bits : (b c : Bool) → bit_or (bit b) (bit c) ≡ bit (b || c)
or_bits true true = refl
or_bits true false = refl
or_bits false c = refl

pub bit_of_and : (a b i : ℕ) → bit_at (bit_and a b) i ≡ bit_at a i && bit_at b i
bit_of_and = bit_op bit_and ◌&&◌ and_shr and_mod and_bits

pub bit_of_or : (a b i : ℕ) → bit_at (bit_or a b) i ≡ bit_at a i || bit_at b i
bit_of_or = bit_op bit_or ◌||◌ or_shr or_mod or_bits

-- ---- the word of a test

pub word_lt : (p : ℕ → Bool) (n : ℕ) → word p n < 2 ^ n
unfolding word
word_lt p zero = lit< tt
word_lt p (suc n) = rw pow-succ' (digits_lt (bit_lt (p n)) (word_lt p n))

pub word_ext : {p q : ℕ → Bool} (n : ℕ) → ((i : ℕ) → i < n → p i ≡ q i) → word p n ≡ word q n
unfolding word
word_ext zero h = refl
word_ext (suc n) h = ap₂ (λ (b : Bool) (r : ℕ). bit b * 2 ^ n + r) (h n (omega arith)) (word_ext n (λ i l. h i (omega arith)))

-- the step of a loop that sets bits in ascending order
pub word_next : (p : ℕ → Bool) (n : ℕ) → bit_or (word p n) (bit (p n) * 2 ^ n) ≡ word p (suc n)
unfolding word
word_next p n = or_shifted_r (bit (p n)) n (word p n) (word_lt p n)

-- bit i comes with the digit i, and the digits above it leave it as it is
pub bit_word : (p : ℕ → Bool) {i n : ℕ} → i < n → bit_at (word p n) i ≡ p i
unfolding word bit_at
bit_word p {i} {n} h =
    le_ind (λ (m : ℕ). bit_at (word p m) i ≡ p i)
    (ap (λ (x : ℕ). eqb (x % 2) 1) (high (bit (p i)) i (word_lt p i)) ∙ ap (λ (x : ℕ). eqb x 1) (mod-eq_of_lt (bit_lt (p i))) ∙ bit_eqb (p i))
    (λ m l e. sym (bit_mod (word p (suc m)) l) ∙ ap (λ (x : ℕ). bit_at x i) (low (bit (p m)) m (word_lt p m)) ∙ e) n h

pub bit_word_high : (p : ℕ → Bool) {i n : ℕ} → n ≤ i → bit_at (word p n) i ≡ false
bit_word_high p {n = n} = bit_high (word_lt p n)

word_mod : (a w : ℕ) → word (bit_at a) w ≡ a % 2 ^ w
unfolding word
word_mod a zero = sym (mod-one a)
word_mod a (suc w) =
    ap₂ (λ (x y : ℕ). x * 2 ^ w + y) (sym (digit_bit a w)) (word_mod a w) ∙ sym (mod-pow-add a 1 w) ∙ ap (λ (x : ℕ). a % 2 ^ x) (one-add w)

-- a number is the word of its own bits
pub word_bits : (w : ℕ) {a : ℕ} → a < 2 ^ w → a ≡ word (bit_at a) w
word_bits w {a} h = sym (word_mod a w ∙ mod-eq_of_lt h)

pub bits_ext : (w : ℕ) {a b : ℕ} → a < 2 ^ w → b < 2 ^ w → ((i : ℕ) → i < w → bit_at a i ≡ bit_at b i) → a ≡ b
bits_ext w ha hb h = word_bits w ha ∙ word_ext w h ∙ sym (word_bits w hb)

-- the words of no number and of one
pub word_none : {p : ℕ → Bool} (n : ℕ) → ((i : ℕ) → i < n → p i ≡ false) → word p n ≡ 0
word_none {p} n h = bits_ext n (word_lt p n) (pow_pos n) (λ i l. bit_word p l ∙ h i l ∙ sym (bit_zero i))

pub word_one : {k n : ℕ} → k < n → word (λ i. eqb i k) n ≡ 2 ^ k
word_one {k} {n} h = bits_ext n (word_lt _ n) (pow-lt h) (λ i l. bit_word _ l ∙ sym (bit_pow k i))

-- numbers behind the last that passes add nothing
pub word_short : {p : ℕ → Bool} {m n : ℕ} → m ≤ n → ((i : ℕ) → m ≤ i → i < n → p i ≡ false) → word p n ≡ word p m
word_short {p} {m} {n} h none =
    bits_ext n (word_lt p n) (lt_of_lt_of_le (word_lt p m) (pow_mono h))
    (λ i l.
    bit_word p l
    ∙ by_cases (dec_lt i m) (λ (b : i < m). sym (bit_word p b)) (λ (g : ¬ (i < m)). none i (omega arith) l ∙ sym (bit_word_high p {n = m} (omega arith))))

-- an operation on words is one on tests
module _ (op : ℕ → ℕ → ℕ) (f : Bool → Bool → Bool)
    (bit-by-bit : (a b i : ℕ) → bit_at (op a b) i ≡ f (bit_at a i) (bit_at b i))
    (narrow : (k a b : ℕ) → a < 2 ^ k → b < 2 ^ k → op a b < 2 ^ k) where
  word_op : (p q : ℕ → Bool) (n : ℕ) → op (word p n) (word q n) ≡ word (λ i. f (p i) (q i)) n
  word_op p q n =
      bits_ext n (narrow n (word p n) (word q n) (word_lt p n) (word_lt q n)) (word_lt _ n)
      (λ i l. bit-by-bit (word p n) (word q n) i ∙ ap₂ f (bit_word p l) (bit_word q l) ∙ sym (bit_word (λ j. f (p j) (q j)) l))

pub word_both : (p q : ℕ → Bool) (n : ℕ) → bit_and (word p n) (word q n) ≡ word (λ i. p i && q i) n
word_both = word_op bit_and ◌&&◌ bit_of_and and_lt

pub word_either : (p q : ℕ → Bool) (n : ℕ) → bit_or (word p n) (word q n) ≡ word (λ i. p i || q i) n
word_either = word_op bit_or ◌||◌ bit_of_or or_lt

-- ---- the complement: a word and the word of the opposite test fill every place

fill_step : (b : Bool) (x y z : ℕ) → x + y + 1 ≡ z → bit b * z + x + (bit (not b) * z + y) + 1 ≡ z + z
fill_step true x y z h = omega arith
fill_step false x y z h = omega arith

word_fill : (p : ℕ → Bool) (n : ℕ) → word p n + word (λ i. not (p i)) n + 1 ≡ 2 ^ n
unfolding word
word_fill p zero = refl
word_fill p (suc n) = fill_step (p n) (word p n) (word (λ i. not (p i)) n) (2 ^ n) (word_fill p n) ∙ sym (two-pow-succ n)

-- the word of every number, and its part that another word leaves: `all & !a`
pub word_all : (n : ℕ) → word (λ i. true) n ≡ 2 ^ n - 1
word_all n = omega (arith, word_fill (λ i. true) n, word_none {p = λ i. false} n (λ i l. refl))

pub bit_not : {a w i : ℕ} → a < 2 ^ w → i < w → bit_at (2 ^ w - 1 - a) i ≡ not (bit_at a i)
bit_not {a} {w} {i} h l =
    let rest : 2 ^ w - 1 - a ≡ word (λ j. not (bit_at a j)) w = omega (arith, word_bits w h, word_fill (bit_at a) w) in
    ap (λ (x : ℕ). bit_at x i) rest ∙ bit_word (λ j. not (bit_at a j)) l

-- `a & !b`
pub bit_minus : (w : ℕ) {a b : ℕ} → a < 2 ^ w → b < 2 ^ w → (i : ℕ) → bit_at (bit_and a (2 ^ w - 1 - b)) i ≡ bit_at a i && not (bit_at b i)
bit_minus w {a} {b} ha hb i =
    bit_of_and a (2 ^ w - 1 - b) i
    ∙ by_cases (dec_lt i w) (λ (l : i < w). rw (bit_not hb l)) (λ (g : ¬ (i < w)). rw (bit_high {i = i} ha (omega arith)))

pub word_not : (p : ℕ → Bool) (n w : ℕ) → n ≤ w → bit_and (word (λ i. true) n) (2 ^ w - 1 - word p n) ≡ word (λ i. not (p i)) n
word_not p n w h =
    let wide : (q : ℕ → Bool) → word q n < 2 ^ w = λ q. lt_of_lt_of_le (word_lt q n) (pow_mono h) in
    bits_ext n (lt_of_le_of_lt (and_le_l _ _) (word_lt (λ i. true) n)) (word_lt _ n)
    (λ i l. bit_minus w (wide (λ i. true)) (wide p) i ∙ ap₂ (λ (a b : Bool). a && not b) (bit_word (λ i. true) l) (bit_word p l) ∙ sym (bit_word (λ j. not (p j)) l))

-- ---- counts of bits

ones_bit : (b : Bool) → ones (bit b) ≡ bit b
unfolding ones
ones_bit true = refl
ones_bit false = refl

pub ones_word : (p : ℕ → Bool) (n : ℕ) → ones (word p n) ≡ count p n
unfolding word count ones
ones_word p zero = refl
ones_word p (suc n) = ones_cat n (bit (p n)) (word p n) (word_lt p n) ∙ ap₂ (λ (x y : ℕ). x + y) (ones_bit (p n)) (ones_word p n)

pub ones_count : (w : ℕ) {a : ℕ} → a < 2 ^ w → ones a ≡ count (bit_at a) w
ones_count w {a} h = ap ones (word_bits w h) ∙ ones_word (bit_at a) w

pub ones_both : (p q : ℕ → Bool) (n : ℕ) → ones (bit_and (word p n) (word q n)) ≡ count (λ i. p i && q i) n
ones_both p q n = ap ones (word_both p q n) ∙ ones_word (λ i. p i && q i) n

pub ones_and : (w : ℕ) {a b : ℕ} → a < 2 ^ w → b < 2 ^ w → ones (bit_and a b) ≡ count (λ i. bit_at a i && bit_at b i) w
ones_and w {a} {b} ha hb = ap₂ (λ (x y : ℕ). ones (bit_and x y)) (word_bits w ha) (word_bits w hb) ∙ ones_both (bit_at a) (bit_at b) w
