-- Counting by masks: the ones of the masks and the part's word together, level by level, are the successors where the part holds.
use mathlib.Core.Path.{◌≡◌, sym, ap, ◌∙◌}
use mathlib.Core.Logic.{by_cases}
use mathlib.Core.Bool.{Bool, true, not}
use Prim.Native.Nat.{ℕ, ◌+◌, ◌≤◌, zero-le}
use native.Mathlib.Decide.{dec_le}
use native.Mathlib.Omega.{arith}
use lib.Bits.{bit_and}
use lib.Count.{ones}
use lib.Dec.{leb, ltb}
use borrow.Author.Tests.{le-leb, lt-leb}
use Rattle.semantics.specs.Count.{sum}
use Rattle.semantics.specs.Structure.{number, Structure, successors}
use Rattle.semantics.proofs.Sum.{sum_same, sum_cut}
use Rattle.semantics.proofs.Levels.{successors_levels}
use Rattle.sets.specs.Word.{word}
use Rattle.sets.proofs.Words.{ones_both}
use Rattle.structure.specs.Masks.{mask_of}

module _ (s : Structure) (relation : ℕ) (p : ℕ → Bool) (v : ℕ) where
  -- what is counted at a level
  abbrev at_level : ℕ → ℕ
  at_level t = ones (bit_and (mask_of s true relation v t) (word p s.worlds))

  -- as many levels are enough as links have copies
  pub counted : {levels : ℕ} → levels ≤ 4 → ((t : ℕ) → levels ≤ t → mask_of s true relation v t ≡ 0) → sum at_level levels ≡ successors s relation v p
  unfolding ones
  counted few none =
      sum_cut 4 (λ t h. ap (λ (x : ℕ). ones (bit_and x (word p s.worlds))) (none t h)) few
      ∙ sum_same 4 (λ t l. ones_both (λ w. ltb t (number (s.links relation v w))) p s.worlds)
      ∙ sym (successors_levels s relation v p)

  -- from a world without links no world is led to
  pub none_counted : ((t : ℕ) → mask_of s true relation v t ≡ 0) → successors s relation v p ≡ 0
  unfolding sum
  none_counted none = sym (counted zero-le (λ t h. none t))

-- at most n is not at least one more
pub at_most : (n c : ℕ) → not (leb (n + 1) c) ≡ leb c n
at_most n c =
    by_cases (dec_le c n) (λ (h : c ≤ n). rw (le-leb c n h, lt-leb (n + 1) c (omega arith)))
    (λ (g : ¬ (c ≤ n)). rw (lt-leb c n (omega arith), le-leb (n + 1) c (omega arith)))
