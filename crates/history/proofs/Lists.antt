-- A list by its elements: `listed`, what is stored in it, and a part that is written anew.
use mathlib.Core.Path.{◌≡◌, refl, sym, ◌∙◌}
use mathlib.Core.Logic.{⊎_elim}
use mathlib.Core.List.{List, [], ◌∷◌, ◌++◌}
use Prim.Native.Nat.{ℕ, zero, suc, ◌+◌, ◌-◌, ◌<◌, ◌≤◌}
use native.Mathlib.Nat.{eq-or-lt_of_le, le_of_suc-le-suc, not-suc-le-zero}
use native.Mathlib.Omega.{arith}
use lib.ListN.{length, get_or, take, drop, length-append, length-take, length-drop, get_or-append}
use lib.Seq.{get_or_at, ext_get_or, get_or-take, get_or-append_right, length-take-le}
use borrow.Rule.Slice.PartMut.{put_mid, post_of, same_len_mid}
use Rattle.history.specs.Shown.{listed}

pub length_listed : (f : ℕ → ℕ) (n : ℕ) → length (listed f n) ≡ n
unfolding listed
length_listed f zero = refl
length_listed f (suc n) = length-append (listed f n) (f n ∷ []) ∙ omega (arith, length_listed f n)

pub get_d_listed : (f : ℕ → ℕ) (n i : ℕ) → i < n → get_or (listed f n) i 0 ≡ f i
unfolding listed
get_d_listed f zero i h = absurd (not-suc-le-zero h)
get_d_listed f (suc n) i h =
    ⊎_elim (λ (e : i ≡ n). rw e (get_or_at (listed f n) (f n) [] 0 n (length_listed f n)))
    (λ (less : i < n). get_or-append (listed f n) (f n ∷ []) 0 i (omega (arith, length_listed f n)) ∙ get_d_listed f n i less)
    (eq-or-lt_of_le (le_of_suc-le-suc h))

-- a list of n elements is listed by any function that has them
pub is_listed : (l : List ℕ) (f : ℕ → ℕ) (n : ℕ) → length l ≡ n → ((i : ℕ) → i < n → get_or l i 0 ≡ f i) → l ≡ listed f n
is_listed l f n long same =
    ext_get_or 0 l (listed f n) (long ∙ sym (length_listed f n))
    (λ i inside. let h : i < n = omega arith in same i h ∙ sym (get_d_listed f n i h))

-- a list of which k elements from a place on were written anew, after `[a..]`
module _ (a k : ℕ) (l part : List ℕ) (within : a ≤ length l) where
  pub part_before : (i : ℕ) → i < a → get_or (put_mid a k l part) i 0 ≡ get_or l i 0
  part_before i h =
      let front = length-take-le a l within in
      get_or-append (take a l) (part ++ post_of a k l) 0 i (omega (arith, front)) ∙ get_or-take a l i 0 h

  pub part_inside : (i : ℕ) → i < length part → get_or (put_mid a k l part) (a + i) 0 ≡ get_or part i 0
  part_inside i h =
      let front = length-take-le a l within in
      let at : a + i - length (take a l) ≡ i = omega (arith, front) in
      get_or-append_right (take a l) (part ++ post_of a k l) (a + i) 0 (omega (arith, front)) ∙ rw at (get_or-append part (post_of a k l) 0 i h)

  -- as many as stood there
  pub part_long : a + length part ≡ length l → k ≡ length l - a → length (put_mid a k l part) ≡ length l
  part_long all is = same_len_mid a k l part (omega (arith, length-drop a l, length-take k (drop a l)))
