-- What records state, as words. One record more sets the bits that it states. A link is there at a level where some record states so many copies.
use mathlib.Core.Path.{◌≡◌, refl, ap, ◌∙◌}
use mathlib.Core.Logic.{by_cases}
use mathlib.Core.Bool.{Bool, false, cond, ◌||◌}
use Prim.Native.Nat.{ℕ, zero, suc, ◌≤◌, ◌<◌, zero-le}
use native.Mathlib.Decide.{dec_lt, dec_le}
use native.Mathlib.Omega.{arith}
use lib.Bits.{bit_or}
use lib.Dec.{leb, ltb}
use borrow.Author.Tests.{lt-ltb, le-ltb, le-leb, lt-leb}
use Rattle.semantics.specs.Structure.{Copies, number}
use Rattle.sets.specs.Word.{word}
use Rattle.sets.proofs.Words.{word_none, word_either}
use Rattle.structure.specs.Read.{some, greatest}

pub some_none : {p : ℕ → Bool} (n : ℕ) → ((i : ℕ) → i < n → p i ≡ false) → some p n ≡ false
unfolding some
some_none zero h = refl
some_none (suc n) h = rw (some_none n (λ i l. h i (omega arith)), h n (omega arith))

-- the word of the worlds that one of the first i records states
abbrev pub some_word : (ℕ → ℕ → Bool) → ℕ → ℕ → ℕ
some_word p i n = word (λ w. some (λ j. p j w) i) n

pub some_word_none : (p : ℕ → ℕ → Bool) (n : ℕ) → some_word p 0 n ≡ 0
unfolding some
some_word_none p n = word_none n (λ w l. refl)

pub some_word_more : (p : ℕ → ℕ → Bool) (i n : ℕ) → bit_or (some_word p i n) (word (p i) n) ≡ some_word p (suc i) n
unfolding some
some_word_more p i n = word_either _ (p i) n

-- the greater number is there at a level where one of the two is
either_level : (t : ℕ) (a b : Copies) → ltb t (number (cond (leb (number b) (number a)) a b)) ≡ ltb t (number a) || ltb t (number b)
either_level t a b =
    by_cases (dec_le (number b) (number a))
    (λ (h : number b ≤ number a). rw (le-leb (number b) (number a) h)
    (by_cases (dec_lt t (number a)) (λ (l : t < number a). rw (lt-ltb t (number a) l))
    (λ (g : ¬ (t < number a)). rw (le-ltb t (number a) (omega arith), le-ltb t (number b) (omega arith)))))
    (λ (g : ¬ (number b ≤ number a)). rw (lt-leb (number b) (number a) (omega arith))
    (by_cases (dec_lt t (number a)) (λ (l : t < number a). rw (lt-ltb t (number a) l, lt-ltb t (number b) (omega arith)))
    (λ (n : ¬ (t < number a)). rw (le-ltb t (number a) (omega arith)))))

pub greatest_level : (t : ℕ) (f : ℕ → Copies) (n : ℕ) → ltb t (number (greatest f n)) ≡ some (λ i. ltb t (number (f i))) n
unfolding greatest some
greatest_level t f zero = le-ltb t 0 zero-le
greatest_level t f (suc n) = either_level t (greatest f n) (f n) ∙ ap (λ (b : Bool). b || ltb t (number (f n))) (greatest_level t f n)
