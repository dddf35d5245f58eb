-- `all_worlds` meets its contract: 64 ones, of which as many are shifted out as there are worlds too few.
use mathlib.Core.Path.{◌≡◌, sym, ap, ◌∙◌}
use Prim.Native.Nat.{ℕ, ◌+◌, ◌-◌, ◌/◌, ◌^◌}
use native.Mathlib.Omega.{arith}
use lib.Pow.{ones_split, ones_lt, high}
use Rattle.sets.proofs.Words.{word_all}
use Rattle.truth_table.proofs.entry_word.all_worlds.Goals as goal

ones_shifted : (n k : ℕ) → (2 ^ (n + k) - 1) / 2 ^ k ≡ 2 ^ n - 1
ones_shifted n k = ap (λ (x : ℕ). x / 2 ^ k) (ones_split n k) ∙ high (2 ^ n - 1) k (ones_lt k)

pub returns : goal.returns
returns c =
    let n = c.args.worlds in
    let whole : n + (64 - n) ≡ 64 = omega arith in
    ap (λ (k : ℕ). (2 ^ k - 1) / 2 ^ (64 - n)) (sym whole) ∙ ones_shifted n (64 - n) ∙ sym (word_all n)
