-- The entries that a history gives are an accepted table, if there are any.
use mathlib.Core.Path.{◌≡◌, sym, ◌∙◌}
use mathlib.Core.List.{List}
use Prim.Native.Nat.{ℕ, ◌*◌, ◌<◌, ◌≤◌}
use native.Mathlib.Omega.{arith}
use lib.ListN.{length, get_or, take}
use lib.Seq.{length-take-le, get_or-take}
use Rattle.faults.proofs.Each.{all_accepted}
use Rattle.packed.proofs.Bytes.{same_bytes}
use Rattle.table.specs.Entry.{word_in, entry_in}
use Rattle.table.specs.Check.{entry_verdict, table_verdict}
use Rattle.table.proofs.Accepted.{entries_accepted}
use Rattle.history.specs.declared.Step.{Step}
use Rattle.history.specs.History.{state}
use Rattle.history.specs.Shown.{draft_in, BytesShow}
use Rattle.history.proofs.Lists.{get_d_listed}
use Rattle.history.proofs.Kept.{kept}
use Rattle.history.proofs.Reached.{shown_count, shown_word}
use Rattle.faults.specs.Verdict.{accepted}

-- the first bytes spell the entries
module _ (steps : List Step) (bytes : List ℕ) (n : ℕ) (all : n ≡ length (state steps).entries) (room : 4 * n ≤ length bytes)
    (there : (i : ℕ) → i < n → word_in bytes i ≡ get_or (state steps).entries i 0) where
  pub table_words : (i : ℕ) → i < n → word_in (take (4 * n) bytes) i ≡ get_or (state steps).entries i 0
  unfolding word_in
  table_words i h = same_bytes (take (4 * n) bytes) bytes (4 * i) 4 (λ k low high. get_or-take (4 * n) bytes k 0 (omega arith)) ∙ there i h

  pub table_accepted : 1 ≤ n → table_verdict (take (4 * n) bytes) ≡ accepted
  table_accepted some =
      entries_accepted (take (4 * n) bytes) n (length-take-le (4 * n) bytes room) some (omega (arith, (kept steps).few))
      (all_accepted (λ i. entry_verdict (entry_in (take (4 * n) bytes) i) i) n
      (λ i h. rw (table_words i h) ((kept steps).good i (omega arith))))

-- packed bytes hold the table of their draft in front: its entries, whose number stands behind them
pub packed_words : (steps : List Step) (bytes : List ℕ) → BytesShow bytes (state steps) → (i : ℕ) → i < 64 → word_in bytes i ≡ get_or (state steps).entries i 0
unfolding draft_in
packed_words steps bytes shown i h =
    sym (get_d_listed (word_in bytes) 64 i h) ∙ shown_word (state steps) (sym shown.same) i h

pub packed_count : (steps : List Step) (bytes : List ℕ) → BytesShow bytes (state steps) → get_or bytes 256 0 ≡ length (state steps).entries
unfolding draft_in
packed_count steps bytes shown = shown_count (state steps) (sym shown.same)

pub packed_table : (steps : List Step) (bytes : List ℕ) → BytesShow bytes (state steps) → 1 ≤ get_or bytes 256 0
    → table_verdict (take (4 * get_or bytes 256 0) bytes) ≡ accepted
packed_table steps bytes shown some =
    let count = packed_count steps bytes shown in
    let few = (kept steps).few in
    table_accepted steps bytes (get_or bytes 256 0) count (omega (arith, shown.long))
    (λ i h. packed_words steps bytes shown i (omega arith)) some
