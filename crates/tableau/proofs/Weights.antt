-- Behind slots with weights that refute, no copies of listed sets complete them to a solution; nor do they besides m copies of another set.
-- Why: weighed and rounded, every copy serves no more than it costs, but more is lacking than there is room for. What is lacking and the room
-- grow evenly with m, so what is refuted at both ends is refuted between them.
use mathlib.Core.Path.{◌≡◌, refl, sym, ap, ◌∙◌}
use mathlib.Core.Logic.{by_cases}
use mathlib.Core.Logic.◌⊎◌.{inl, inr}
use mathlib.Core.Bool.{Bool, true, false, not}
use mathlib.Core.List.{List, [], ◌∷◌}
use Prim.Native.Nat.{ℕ, zero, suc, ◌+◌, ◌-◌, ◌*◌, ◌/◌, ◌<◌, ◌≤◌}
use native.Mathlib.Nat.{le_refl, le_of_suc-le-suc, add-le-add, mul-le-mul, mul-add, add-mul, mul-suc, mul_comm, mul_left_comm, mul_assoc, mul-zero, zero-mul, zero-lt-suc, mul-one, lt_of_mul-lt-mul_left, div-add-mod, mod-lt}
use native.Mathlib.Decide.{dec_le}
use native.Mathlib.Omega.{arith}
use Rattle.semantics.specs.Count.{bit, gain, sum}
use Rattle.sets.specs.Word.{bit_at}
use Rattle.tableau.specs.Counting.{Row, total, All, lo, hi, served, spent}
use Rattle.tableau.specs.Search.{Slot, taken, rows_of, Each, Problem, Asks, Extension}
use Rattle.tableau.specs.Search.Choice.{done, some}
use Rattle.tableau.specs.Listed.{In}
use Rattle.tableau.specs.Weights.{up, serves, costs, lack, room, Weighing, Refuted, RefutedWith}

-- all successors of the rows, each with the weight of its row
unfoldable weigh : (Row → ℕ) → List Row → ℕ
weigh f [] = 0
weigh f (row ∷ rows) = row.copies * f row + weigh f rows

sum_mono : {f g : ℕ → ℕ} (n : ℕ) → ((i : ℕ) → f i ≤ g i) → sum f n ≤ sum g n
unfolding sum
sum_mono zero h = le_refl 0
sum_mono (suc n) h = add-le-add (h n) (sum_mono n h)

gain_bit : (b : Bool) (c : ℕ) → gain b c ≡ c * bit b
gain_bit true c = sym (mul-one c)
gain_bit false c = sym (mul-zero c)

-- one more row
one_more : (y c t : ℕ) (b : Bool) → y * (gain b c + t) ≡ c * (y * bit b) + y * t
one_more y c t b =
    mul-add y (gain b c) t ∙ ap (λ (k : ℕ). k + y * t) (ap (λ (k : ℕ). y * k) (gain_bit b c) ∙ sym (mul_assoc y c (bit b)) ∙ ap (λ (k : ℕ). k * bit b) (mul_comm y c) ∙ mul_assoc c y (bit b))

sum_row : (y : ℕ → ℕ) (p : ℕ → Row → Bool) (row : Row) (rows : List Row) (n : ℕ)
    → sum (λ i. y i * total (p i) (row ∷ rows)) n ≡ row.copies * sum (λ i. y i * bit (p i row)) n + sum (λ i. y i * total (p i) rows) n
unfolding sum total
sum_row y p row rows zero = sym (ap (λ (k : ℕ). k + 0) (mul-zero row.copies))
sum_row y p row rows (suc n) =
    omega (
      arith,
      one_more (y n) row.copies (total (p n) rows) (p n row),
      sum_row y p row rows n,
      mul-add row.copies (y n * bit (p n row)) (sum (λ i. y i * bit (p i row)) n),
    )

sum_nothing : (y : ℕ → ℕ) (p : ℕ → Row → Bool) (n : ℕ) → sum (λ i. y i * total (p i) []) n ≡ 0
unfolding sum total
sum_nothing y p zero = refl
sum_nothing y p (suc n) = omega (arith, mul-zero (y n), sum_nothing y p n)

-- the weighed tallies are the weighed successors
weigh_sum : (y : ℕ → ℕ) (p : ℕ → Row → Bool) (n : ℕ) (rows : List Row) → sum (λ i. y i * total (p i) rows) n ≡ weigh (λ row. sum (λ i. y i * bit (p i row)) n) rows
unfolding weigh
weigh_sum y p n [] = sum_nothing y p n
weigh_sum y p n (row ∷ rows) = omega (arith, sum_row y p row rows n, weigh_sum y p n rows)

weigh_mono : (f g : Row → ℕ) (rows : List Row) → All (λ row. f row ≤ g row) rows → weigh f rows ≤ weigh g rows
unfolding weigh
weigh_mono f g [] all = le_refl 0
weigh_mono f g (row ∷ rows) all = add-le-add (mul-le-mul (le_refl row.copies) all.0) (weigh_mono f g rows all.1)

module _ {r : ℕ} (pos : 0 < r) where
  below_up : (x : ℕ) → x ≤ r * up x r
  below_up x = omega (arith, div-add-mod (x + (r - 1)) r, mod-lt (x + (r - 1)) pos)

  above_down : (x : ℕ) → r * (x / r) ≤ x
  above_down x = omega (arith, div-add-mod x r)

  up_least : (x k : ℕ) → x ≤ r * k → up x r ≤ k
  up_least x k h =
      let less : r * up x r < r * suc k = omega (arith, div-add-mod (x + (r - 1)) r, mul-suc r k) in
      le_of_suc-le-suc (lt_of_mul-lt-mul_left r less)

  down_greatest : (x k : ℕ) → r * k ≤ x → k ≤ x / r
  down_greatest x k h =
      let less : r * k < r * suc (x / r) = omega (arith, div-add-mod x r, mod-lt x pos, mul-suc r (x / r)) in
      le_of_suc-le-suc (lt_of_mul-lt-mul_left r less)

  weigh_up : (f : Row → ℕ) (rows : List Row) → weigh f rows ≤ r * weigh (λ row. up (f row) r) rows
  unfolding weigh
  weigh_up f [] = omega arith
  weigh_up f (row ∷ rows) =
      let c = row.copies in
      let u = up (f row) r in
      let w = weigh (λ row. up (f row) r) rows in
      omega (arith, mul-le-mul (le_refl c) (below_up (f row)), mul_left_comm c r u, mul-add r (c * u) w, weigh_up f rows)

  weigh_down : (f : Row → ℕ) (rows : List Row) → r * weigh (λ row. f row / r) rows ≤ weigh f rows
  unfolding weigh
  weigh_down f [] = omega (arith, mul-zero r)
  weigh_down f (row ∷ rows) =
      let c = row.copies in
      let u = f row / r in
      let w = weigh (λ row. f row / r) rows in
      omega (arith, mul-le-mul (le_refl c) (above_down (f row)), mul_left_comm c r u, mul-add r (c * u) w, weigh_down f rows)

-- a weight counts only where there is one
weighed : (k x y : ℕ) → (0 < k → x ≤ y) → k * x ≤ k * y
weighed zero x y h = omega (arith, zero-mul x, zero-mul y)
weighed (suc k) x y h = mul-le-mul (le_refl (suc k)) (h (zero-lt-suc k))

-- the further slots are of listed sets, and complete the slots to a solution
pub record Completes (P : Problem) (slots : List Slot) (list : List ℕ) (more : List Slot) : Type 0 where
  pub listed : Each (λ c. In c list) more
  pub met : (i : ℕ) → Asks P true i → lo (P.entry i) ≤ served i (rows_of more) + served i (rows_of slots)
  pub kept : (j : ℕ) → Asks P false j → spent j (rows_of more) + spent j (rows_of slots) ≤ hi (P.entry j)

also_listed : (b : ℕ) (rest : List ℕ) (more : List Slot) → Each (λ c. In c rest) more → Each (λ c. In c (b ∷ rest)) more
also_listed b rest [] each = each
also_listed b rest (s ∷ more) each = (inr each.0, also_listed b rest more each.1)

-- a slot is one of the further slots, of a set that is listed too
completes_taken : {P : Problem} {slots : List Slot} {list : List ℕ} (b m : ℕ) {more : List Slot} → Completes P (taken b m ∷ slots) list more
    → Completes P slots (b ∷ list) (taken b m ∷ more)
unfolding total
completes_taken {list = list} b m {more} all = record {
  listed = (inl refl, also_listed b list more all.listed);
  met = λ i asks. omega (arith, all.met i asks);
  kept = λ j asks. omega (arith, all.kept j asks);
}

-- what holds of the listed sets holds of the rows of the further slots
rows_all : (list : List ℕ) (Q : (ℕ → Bool) → Type 0) → ((c : ℕ) → In c list → Q (bit_at c)) → (more : List Slot) → Each (λ c. In c list) more
    → All (λ row. Q row.promises) (rows_of more)
rows_all list Q sets [] each = each
rows_all list Q sets (s ∷ more) each = (sets s.code each.0, rows_all list Q sets more each.1)

module _ {P : Problem} {slots : List Slot} {list : List ℕ} {a b : ℕ → ℕ} (weighing : Weighing P a b) {more : List Slot} (all : Completes P slots list more) where
  served_lacking : sum (λ i. a i * lack P slots i) P.n ≤ weigh (λ row. serves P a row.promises) (rows_of more)
  served_lacking =
      let met : sum (λ i. a i * lack P slots i) P.n ≤ sum (λ i. a i * served i (rows_of more)) P.n =
      sum_mono P.n (λ i. weighed (a i) _ _ (λ h. omega (arith, all.met i (weighing.needs i h)))) in
      omega (arith, met, weigh_sum a (λ i row. row.promises i) P.n (rows_of more))

  spent_room : weigh (λ row. costs P b row.promises) (rows_of more) ≤ sum (λ j. b j * room P slots j) P.n
  spent_room =
      let kept : sum (λ j. b j * spent j (rows_of more)) P.n ≤ sum (λ j. b j * room P slots j) P.n =
      sum_mono P.n (λ j. weighed (b j) _ _ (λ h. omega (arith, all.kept j (weighing.limits j h)))) in
      omega (arith, kept, weigh_sum b (λ j row. not (row.promises j)) P.n (rows_of more))

module _ (P : Problem) (slots : List Slot) (list : List ℕ) (a b : ℕ → ℕ) where
  refuted : (r : ℕ) → Refuted P slots list a b r → (more : List Slot) → Completes P slots list more → ⊥
  refuted r weights more all =
      let rows = rows_of more in
      let asked = sum (λ i. a i * lack P slots i) P.n in
      let allowed = sum (λ j. b j * room P slots j) P.n in
      let ups = weigh (λ row. up (serves P a row.promises) r) rows in
      let downs = weigh (λ row. costs P b row.promises / r) rows in
      let first : up asked r ≤ ups =
      up_least weights.divisor asked ups (omega (arith, served_lacking weights.weighing all, weigh_up weights.divisor (λ row. serves P a row.promises) rows)) in
      let second : ups ≤ downs = weigh_mono _ _ rows (rows_all list (λ p. up (serves P a p) r ≤ costs P b p / r) weights.sets more all.listed) in
      let third : downs ≤ allowed / r =
      down_greatest weights.divisor allowed downs (omega (arith, spent_room weights.weighing all, weigh_down weights.divisor (λ row. costs P b row.promises) rows)) in
      omega (arith, first, second, third, weights.gap)

  refuted_with : (s m : ℕ) → RefutedWith P slots list a b s m → (more : List Slot) → Completes P (taken s m ∷ slots) list more → ⊥
  unfolding weigh
  refuted_with s m weights more all =
      let rows = rows_of more in
      let whole = completes_taken s m all in
      let bounded : weigh (λ row. serves P a row.promises) rows ≤ weigh (λ row. costs P b row.promises) rows =
      weigh_mono _ _ rows (rows_all list (λ p. serves P a p ≤ costs P b p) weights.sets more all.listed) in
      omega (arith, served_lacking weights.weighing whole, spent_room weights.weighing whole, bounded, weights.gap)

-- ---- the copies of an extension as further slots

completed : {P : Problem} {slots : List Slot} {list : List ℕ} → Extension P slots list → (more : List Slot) × Completes P slots list more
unfolding total
completed (done met kept) = ([], record { listed = tt; met = λ i asks. omega (arith, met.met i asks); kept = λ j asks. omega (arith, kept.kept j asks) })
completed (some {b = b} m ok e) = let (more, all) = completed e in (taken b m ∷ more, completes_taken b m all)

pub no_extension : {P : Problem} {slots : List Slot} {list : List ℕ} {a b : ℕ → ℕ} {r : ℕ} → Refuted P slots list a b r → Extension P slots list → ⊥
no_extension {P} {slots} {list} {a} {b} {r} weights e = let (more, all) = completed e in refuted P slots list a b r weights more all

pub no_extension_with : {P : Problem} {slots : List Slot} {list : List ℕ} {a b : ℕ → ℕ} {s m : ℕ} → RefutedWith P slots list a b s m
    → Extension P (taken s m ∷ slots) list → ⊥
no_extension_with {P} {slots} {list} {a} {b} {s} {m} weights e = let (more, all) = completed e in refuted_with P slots list a b s m weights more all

-- ---- what is refuted at both ends is refuted between them

-- a multiple of the greater, at a greater number, is greater by no less
grown : {u v : ℕ} {low m : ℕ} → u ≤ v → low ≤ m → m * u + low * v ≤ low * u + m * v
grown {u} {v} {low} {m} less from =
    let d = m - low in
    let e : m ≡ low + d = omega arith in
    omega (
      arith,
      ap (λ (k : ℕ). k * u) e ∙ add-mul low d u,
      ap (λ (k : ℕ). k * v) e ∙ add-mul low d v,
      mul-le-mul (le_refl d) less,
    )

less_between : (x y u v : ℕ) {low m high : ℕ} → low ≤ m → m ≤ high → x + low * u < y + low * v → x + high * u < y + high * v → x + m * u < y + m * v
less_between x y u v from to first last =
    by_cases (dec_le u v) (λ (less : u ≤ v). omega (arith, first, grown less from)) (λ (more : ¬ (u ≤ v)). omega (arith, last, grown {u = v} {v = u} (omega arith) to))

pub refuted_between : {P : Problem} {slots : List Slot} {list : List ℕ} {a b : ℕ → ℕ} {s low m high : ℕ} → RefutedWith P slots list a b s low
    → RefutedWith P slots list a b s high → low ≤ m → m ≤ high → RefutedWith P slots list a b s m
refuted_between first last from to = record { weighing = first.weighing; sets = first.sets; gap = less_between _ _ _ _ from to first.gap last.gap }
