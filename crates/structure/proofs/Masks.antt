-- Masks that gain what records state. One record: its bit comes into one word, at as many levels as it states copies, and that word is in no other
-- row. All of them: what the structure states. The header alone: nothing.
use mathlib.Core.Path.{◌≡◌, refl, sym, ap, ap₂, ◌∙◌}
use mathlib.Core.Logic.{by_cases}
use mathlib.Core.Bool.{Bool, true, false, cond, ◌&&◌, and-true, and-false}
use mathlib.Core.List.{List}
use Prim.Native.Nat.{ℕ, zero, suc, ◌+◌, ◌*◌, ◌^◌, ◌≤◌, ◌<◌, zero-le}
use native.Mathlib.Nat.{le_refl, mul-le-mul, mul-suc}
use native.Mathlib.Decide.{ℕ_discrete, dec_lt}
use native.Mathlib.Omega.{arith}
use lib.Bits.{bit_or, or_zero_r}
use lib.Dec.{eqb, ltb}
use lib.ListN.{length, get_or}
use borrow.Author.Tests.{eq-eqb, ne_eqb, lt-ltb, le-ltb}
use Rattle.semantics.specs.Structure.{none, number}
use Rattle.sets.specs.Word.{word}
use Rattle.sets.proofs.Words.{word_ext, word_none, word_one}
use Rattle.structure.specs.declared.record.Record.{Record}
use Rattle.structure.specs.Record.{record_in, records, worlds_of}
use Rattle.structure.specs.Read.{states_link, copies_of, stated_copies, stated, structure_of}
use Rattle.structure.specs.Masks.{width_of, height_of, mask_of, stated_by, key_of, place_of, Spread, Leveled, Raised, Gained}
use Rattle.structure.specs.Check.{structure_verdict}
use Rattle.structure.proofs.Accepted.{Within, header_first}
use Rattle.structure.proofs.Stated.{some_none, some_word, greatest_level}
use Rattle.faults.specs.Verdict.{accepted}

-- a key tells which row it is of
pub key_same : (k k' : Bool) {name name' : ℕ} → name < 256 → name' < 256 → key_of k name ≡ key_of k' name' → (k ≡ k') × (name ≡ name')
key_same true true h h' e = (refl, omega arith)
key_same true false h h' e = absurd (omega arith)
key_same false true h h' e = absurd (omega arith)
key_same false false h h' e = (refl, e)

-- the row and the word of it that a record speaks of, the bit, and the n levels that it comes to
pub record Speaks (r : Record) (worlds levels : ℕ) (k : Bool) (name v w n : ℕ) : Type 0 where
  named : name < 256
  short : v < width_of k worlds
  low : n ≤ levels
  here : (t : ℕ) → t < n → word (stated_by r k name v t) worlds ≡ 2 ^ w
  above : (t : ℕ) → n ≤ t → t < height_of k levels → (i : ℕ) → stated_by r k name v t i ≡ false
  elsewhere : (k' : Bool) (name' v' t : ℕ) → v' < width_of k' worlds → ((k' ≡ k) × (name' ≡ name) × (v' ≡ v) → ⊥)
      → (i : ℕ) → stated_by r k' name' v' t i ≡ false

-- a record that states no such link is at no level
unstated : (r : Record) (name v w t : ℕ) → states_link r name v w ≡ false → stated_by r true name v t w ≡ false
unstated r name v w t e = rw e (le-ltb t 0 zero-le)

copies_number : (c : ℕ) → c < 4 → number (copies_of c) ≡ c + 1
copies_number zero h = refl
copies_number (suc zero) h = refl
copies_number (suc (suc zero)) h = refl
copies_number (suc (suc (suc zero))) h = refl
copies_number (suc (suc (suc (suc c)))) h = absurd (omega arith)

-- at which levels a link is, if it is there
at_level : (b : Bool) (c t : ℕ) → c < 4 → ltb t (number (cond b (copies_of c) none)) ≡ b && ltb t (c + 1)
at_level true c t few = rw (copies_number c few)
at_level false c t few = le-ltb t 0 zero-le

module _ (r : Record) (worlds levels : ℕ) where
  fact_alone : r.kind ≡ 1 → (k : Bool) (name v t : ℕ) → v < width_of k worlds → ((k ≡ false) × (name ≡ r.name) × (v ≡ 0) → ⊥)
      → (i : ℕ) → stated_by r k name v t i ≡ false
  fact_alone kind true name v t h n i = unstated r name v i t (rw (ne_eqb r.kind 2 (omega arith)))
  fact_alone kind false name v t h n i = rw (ne_eqb r.name name (λ e. n (refl, sym e, omega arith)), and-false)

  link_alone : r.kind ≡ 2 → (k : Bool) (name v t : ℕ) → v < width_of k worlds → ((k ≡ true) × (name ≡ r.name) × (v ≡ r.world) → ⊥)
      → (i : ℕ) → stated_by r k name v t i ≡ false
  link_alone kind false name v t h n i = rw (ne_eqb r.kind 1 (omega arith))
  link_alone kind true name v t h n i =
      unstated r name v i t
      (by_cases (ℕ_discrete name r.name)
      (λ (e : name ≡ r.name). rw (ne_eqb v r.world (λ f. n (refl, e, f)), and-false))
      (λ (ne : ¬ (name ≡ r.name)). rw (ne_eqb r.name name (λ e. ne (sym e)), and-false)))

  fact_speaks : Within r worlds → r.kind ≡ 1 → r.name < 256 → 1 ≤ levels → Speaks r worlds levels false r.name 0 r.world 1
  fact_speaks within kind named some = record {
    named = named;
    short = omega arith;
    low = some;
    here = λ t l.
        word_ext worlds (λ i b. rw (eq-eqb r.kind 1 kind, eq-eqb r.name r.name refl) refl) ∙ word_one (within.fact kind);
    above = λ t far near. absurd (omega arith);
    elsewhere = fact_alone kind;
  }

  -- what a link states of a world
  led : r.kind ≡ 2 → r.copies < 4 → (t w : ℕ) → stated_by r true r.name r.world t w ≡ eqb w r.to && ltb t (r.copies + 1)
  led kind few t w = rw (eq-eqb r.kind 2 kind, eq-eqb r.name r.name refl, eq-eqb r.world r.world refl) (at_level (eqb w r.to) r.copies t few)

  link_speaks : Within r worlds → r.kind ≡ 2 → r.name < 256 → r.copies < levels → levels ≤ 4
      → Speaks r worlds levels true r.name r.world r.to (r.copies + 1)
  link_speaks within kind named low few = record {
    named = named;
    short = (within.link kind).0;
    low = omega arith;
    here = λ t l.
        word_ext worlds (λ i b. led kind (omega arith) t i ∙ rw (lt-ltb t (r.copies + 1) l) (and-true (eqb i r.to))) ∙ word_one (within.link kind).1;
    above = λ t far near i. led kind (omega arith) t i ∙ rw (le-ltb t (r.copies + 1) far) (and-false (eqb i r.to));
    elsewhere = link_alone kind;
  }

-- the word of what all records state is the structure's
pub all_stated : (bytes : List ℕ) (k : Bool) (name v t : ℕ)
    → some_word (λ j. stated_by (record_in bytes j) k name v t) (records bytes) (worlds_of (record_in bytes)) ≡ mask_of (structure_of bytes) k name v t
unfolding stated
all_stated bytes true name v t = word_ext _ (λ w l. sym (greatest_level t (λ j. stated_copies (record_in bytes j) name v w) (records bytes)))
all_stated bytes false name v t = refl

-- at no level above its copies is a link
high : (r : Record) (name v w t : ℕ) → r.copies < 4 → r.copies + 1 ≤ t → stated_by r true name v t w ≡ false
high r name v w t few l = at_level (states_link r name v w) r.copies t few ∙ rw (le-ltb t (r.copies + 1) l) (and-false (states_link r name v w))

-- where every link has fewer copies, no link is at a level
pub above : (bytes : List ℕ) {levels : ℕ} → Leveled bytes levels → (name v t : ℕ) → levels ≤ t → mask_of (structure_of bytes) true name v t ≡ 0
above bytes leveled name v t far =
    sym (all_stated bytes true name v t)
    ∙ word_none _ (λ w l. some_none (records bytes) (λ i b. high (record_in bytes i) name v w t (omega (arith, leveled.all i b, leveled.few)) (omega (arith, leveled.all i b))))

-- words of different rows, or of different worlds, have no level in common
apart : {levels a b n t : ℕ} → ¬ (a ≡ b) → t < levels → n ≤ levels → levels * b ≤ levels * a + t → levels * a + t < levels * b + n → ⊥
apart {levels} {a} {b} ne low few from to =
    by_cases (dec_lt a b)
    (λ (l : a < b). omega (arith, mul-le-mul (le_refl levels) l, mul-suc levels a))
    (λ (g : ¬ (a < b)). let l : b < a = omega arith in omega (arith, mul-le-mul (le_refl levels) l, mul-suc levels b))

-- the levels of a word lie in the words that the rows are spread over
pub in_words : {worlds levels words : ℕ} {places : List ℕ} → Spread worlds levels words places → (k : Bool) {name v n : ℕ} → name < 256
    → v < width_of k worlds → n ≤ levels → levels * (place_of places k name + v) + n ≤ words
in_words {levels = levels} {places = places} spread k {name} {v} named short low =
    let inside : place_of places k name + v < spread.room = omega (arith, spread.layout.inside k name named) in
    omega (arith, mul-le-mul (le_refl levels) inside, mul-suc levels (place_of places k name + v), spread.enough)

height : (k : Bool) {levels t : ℕ} → 1 ≤ levels → t < height_of k levels → t < levels
height true some h = h
height false some h = omega arith

module _ (r : Record) (worlds levels : ℕ) (places before after : List ℕ) where
  gained_at : 1 ≤ levels → Spread worlds levels (length before) places → {k₀ : Bool} {name₀ v₀ w₀ n : ℕ} → Speaks r worlds levels k₀ name₀ v₀ w₀ n
      → Raised (2 ^ w₀) (levels * (place_of places k₀ name₀ + v₀)) n before after → Gained r worlds levels places before after
  gained_at some spread {k₀} {name₀} {v₀} {w₀} {n} says raised k name v t placed =
      let at = place_of places k name + v in
      let at₀ = place_of places k₀ name₀ + v₀ in
      let starts : k ≡ k₀ → name ≡ name₀ → place_of places k name ≡ place_of places k₀ name₀ = λ e f. ap₂ (place_of places) e f in
      by_cases (ℕ_discrete at at₀)
      (λ (e : at ≡ at₀).
      let same = key_same k k₀ placed.named says.named (spread.layout.apart k k₀ name name₀ v v₀ placed.named says.named placed.short says.short placed.own e) in
      let word_same : v ≡ v₀ = omega (arith, starts same.0 same.1, e) in
      by_cases (dec_lt t n)
      (λ (l : t < n). rw (same.0, same.1, word_same) (raised.here _ (omega arith) (omega arith) ∙ ap (bit_or (get_or before _ 0)) (sym (says.here t l))))
      (λ (g : ¬ (t < n)).
      let none : word (stated_by r k name v t) worlds ≡ 0 =
      word_none worlds (λ i b. rw (same.0, same.1, word_same) (says.above t (omega arith) (rw same.0 at placed.low) i)) in
      raised.elsewhere _ (λ from to. g (omega (arith, to, ap (λ (x : ℕ). levels * x) e))) ∙ rw none (sym (or_zero_r _))))
      (λ (ne : ¬ (at ≡ at₀)).
      let none : word (stated_by r k name v t) worlds ≡ 0 =
      word_none worlds (λ i l. says.elsewhere k name v t placed.short (λ same. ne (omega (arith, starts same.0 same.1, same.2))) i) in
      raised.elsewhere _ (λ from to. apart ne (height k some placed.low) says.low from to) ∙ rw none (sym (or_zero_r _)))

  -- what is raised for a fact, and for a link, where nothing is left out
  pub gained_fact : 1 ≤ levels → Spread worlds levels (length before) places → Within r worlds → r.kind ≡ 1 → r.name < 256
      → Raised (2 ^ r.world) (levels * (place_of places false r.name + 0)) 1 before after → Gained r worlds levels places before after
  gained_fact some spread within kind named = gained_at some spread (fact_speaks r worlds levels within kind named some)

  pub gained_link : Spread worlds levels (length before) places → Within r worlds → r.kind ≡ 2 → r.name < 256 → r.copies < levels → levels ≤ 4
      → Raised (2 ^ r.to) (levels * (place_of places true r.name + r.world)) (r.copies + 1) before after → Gained r worlds levels places before after
  gained_link spread within kind named low few = gained_at (omega arith) spread (link_speaks r worlds levels within kind named low few)

-- a record of another kind sets no bit
silent : (r : Record) → (r.kind ≡ 1 → ⊥) → (r.kind ≡ 2 → ⊥) → (k : Bool) (name v t w : ℕ) → stated_by r k name v t w ≡ false
silent r n1 n2 true name v t w = unstated r name v w t (rw (ne_eqb r.kind 2 n2))
silent r n1 n2 false name v t w = rw (ne_eqb r.kind 1 n1)

pub gained_none : (r : Record) (worlds levels : ℕ) (places masks : List ℕ) → (r.kind ≡ 1 → ⊥) → (r.kind ≡ 2 → ⊥) → Gained r worlds levels places masks masks
gained_none r worlds levels places masks n1 n2 k name v t placed = rw (word_none {p = stated_by r k name v t} worlds (λ i l. silent r n1 n2 k name v t i)) (sym (or_zero_r _))

-- a header alone states nothing
pub bare : (bytes : List ℕ) → structure_verdict bytes ≡ accepted → records bytes ≤ 1 → (k : Bool) (name v t : ℕ) → mask_of (structure_of bytes) k name v t ≡ 0
bare bytes ok one k name v t =
    sym (all_stated bytes k name v t)
    ∙ word_none _ (λ w l. some_none (records bytes) (λ i b.
    let first : i ≡ 0 = omega arith in
    let header = header_first bytes ok (omega arith) in
    rw first (silent (record_in bytes 0) (λ e. omega (arith, e, header)) (λ e. omega (arith, e, header)) k name v t w)))
