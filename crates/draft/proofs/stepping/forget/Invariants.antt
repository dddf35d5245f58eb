-- `forget` meets its contract. The invariant: the lengths passed are those that are remembered, the others as they were.
use mathlib.Core.Path.{◌≡◌}
use Prim.Native.Nat.{ℕ, ◌<◌, ◌≤◌}
use lib.Dec.{ltb}
use lib.ListN.{length, get_or}
use Rattle.std.specs.Prelude.{if◌then◌else◌}
use Rattle.draft.proofs.stepping.forget.Given as goal

abbrev pub invariant-loop-length : goal.invariant-loop-length
invariant-loop-length l =
    let many = l.many in
    let before = l.initial.length-items in
    record {
      long : length l.length-items ≡ 16;
      below : (n : ℕ) → n < l.length-index → get_or l.length-items n 0 ≡ (if ltb many (get_or before n 0) then 255 else get_or before n 0);
      behind : (n : ℕ) → l.length-index ≤ n → get_or l.length-items n 0 ≡ get_or before n 0;
    }
