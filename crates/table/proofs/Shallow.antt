-- Document 02, P4: no entry of an accepted table is deeper than 63, so nothing is lost without document 01's refusal 5.
use mathlib.Core.Path.{◌≡◌, refl}
use mathlib.Core.Bool.{Bool, true, false, ◌||◌}
use mathlib.Core.List.{List}
use Prim.Native.Nat.{ℕ, zero, suc, ◌<◌, ◌≤◌}
use native.Mathlib.Nat.{lt-suc_self}
use native.Mathlib.Omega.{arith}
use lib.Dec.{ltb}
use borrow.Author.Tests.{le-ltb}
use Rattle.faults.specs.Verdict.{Verdict, accepted, number_of, refusal}
use Rattle.table.specs.declared.entry.Entry.{Entry}
use Rattle.table.specs.Entry.{entry_in, size}
use Rattle.table.specs.Formulas.{depth_at}
use Rattle.table.specs.Check.{table_verdict}
use Rattle.table.proofs.Accepted.{accepted_formed, accepted_small}
use Rattle.table.proofs.Depths.{depth_le}
use Rattle.std.specs.Prelude.{Ok, Err}

pub accepted_shallow : (bytes : List ℕ) → table_verdict bytes ≡ accepted → (e : ℕ) → e < size bytes → depth_at (entry_in bytes) e ≤ 63
accepted_shallow bytes ok e inside = omega (arith, depth_le (accepted_formed bytes ok) e inside, accepted_small bytes ok)

-- document 01's fault 5: one of the first n entries is deeper than 63
unfoldable pub too_deep : (ℕ → Entry) → ℕ → Bool
too_deep entry zero = false
too_deep entry (suc n) = too_deep entry n || ltb 63 (depth_at entry n)

-- the number of a verdict with 5 behind the other faults of a table
abbrev pub with5 : Verdict → Bool → ℕ
with5 (Err f) deep = number_of f
with5 (Ok tt) true = 5
with5 (Ok tt) false = 0

-- the number of a table's first fault in document 01: 1; then entry by entry 2, 3, 4; then 5
abbrev pub number_with5 : List ℕ → ℕ
number_with5 bytes = with5 (table_verdict bytes) (too_deep (entry_in bytes) (size bytes))

none_deep : (entry : ℕ → Entry) (n : ℕ) → ((i : ℕ) → i < n → depth_at entry i ≤ 63) → too_deep entry n ≡ false
unfolding too_deep
none_deep entry zero shallow = refl
none_deep entry (suc n) shallow =
    rw (none_deep entry n (λ i h. shallow i (omega arith))) (le-ltb 63 (depth_at entry n) (shallow n (lt-suc_self n)))

same_number : (v : Verdict) (deep : Bool) → (v ≡ accepted → deep ≡ false) → with5 v deep ≡ refusal v
same_number (Ok tt) deep none = rw (none refl) refl
same_number (Err f) deep none = refl

-- with refusal 5 and without it every list of bytes has the same number
pub nothing_lost : (bytes : List ℕ) → number_with5 bytes ≡ refusal (table_verdict bytes)
nothing_lost bytes = same_number (table_verdict bytes) _ (λ ok. none_deep (entry_in bytes) (size bytes) (accepted_shallow bytes ok))
