-- A number that is written from its last byte to its first. Until all bytes are written, what is still to write is what the bytes in
-- front have to spell for all of them to spell the number.
use mathlib.Core.Path.{◌≡◌, refl, ◌∙◌}
use mathlib.Core.List.{List}
use Prim.Native.Nat.{ℕ, suc, ◌+◌, ◌/◌, ◌%◌, ◌^◌, ◌≤◌, ◌<◌}
use native.Mathlib.Nat.{pow-suc}
use native.Mathlib.Omega.{arith}
use lib.ListN.{length, get_or, set, length-set}
use lib.Seq.{get_or-set_same, get_or-set_other}
use Rattle.packed.specs.Bytes.{big_endian_of, Put}

module _ (at width number : ℕ) (before : List ℕ) where
  -- the first k bytes are still to write, for the rest
  pub record Putting (k rest : ℕ) (bytes : List ℕ) : Type 0 where
    pub within : k ≤ width
    pub fits : rest < 256 ^ k
    pub as_long : length bytes ≡ length before
    pub spells : (l : List ℕ) → ((j : ℕ) → at + k ≤ j → get_or l j 0 ≡ get_or bytes j 0) → big_endian_of l at k ≡ rest → big_endian_of l at width ≡ number
    pub in_front : (j : ℕ) → j < at + k → get_or bytes j 0 ≡ get_or before j 0
    pub behind : (j : ℕ) → at + width ≤ j → get_or bytes j 0 ≡ get_or before j 0

  pub none_put : number < 256 ^ width → Putting width number before
  none_put small =
      record { within = omega arith; fits = small; as_long = refl; spells = λ l same e. e; in_front = λ j h. refl; behind = λ j h. refl }

  module _ (room : at + width ≤ length before) (k rest : ℕ) (bytes : List ℕ) (p : Putting (suc k) rest bytes) where
    pub inside : at + k < length bytes
    inside = omega (arith, p.within, p.as_long)

    pub one_put : Putting k (rest / 256) (set bytes (at + k) (rest % 256))
    unfolding big_endian_of
    one_put =
        record {
          within = omega (arith, p.within);
          fits = omega (arith, rw pow-suc at p.fits);
          as_long = length-set bytes (at + k) (rest % 256) ∙ p.as_long;
          spells =
              λ l same e.
              let byte : get_or l (at + k) 0 ≡ rest % 256 = same (at + k) (omega arith) ∙ get_or-set_same bytes (at + k) (rest % 256) 0 inside in
              p.spells l (λ j h. same j (omega arith) ∙ get_or-set_other bytes (at + k) j (rest % 256) 0 (omega arith)) (omega arith);
          in_front = λ j h. get_or-set_other bytes (at + k) j (rest % 256) 0 (omega arith) ∙ p.in_front j (omega arith);
          behind = λ j h. get_or-set_other bytes (at + k) j (rest % 256) 0 (omega (arith, p.within)) ∙ p.behind j h;
        }

  pub all_put : (rest : ℕ) (bytes : List ℕ) → Putting 0 rest bytes → Put at width number before bytes
  unfolding big_endian_of
  all_put rest bytes p =
      record {
        as_long = p.as_long;
        spelt = p.spells bytes (λ j h. refl) (omega (arith, p.fits));
        in_front = λ j h. p.in_front j (omega arith);
        behind = p.behind;
      }
