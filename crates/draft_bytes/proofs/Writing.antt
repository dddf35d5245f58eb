-- Words and saved lengths written to bytes, and what they pack.
use mathlib.Core.Path.{◌≡◌, refl, sym, ◌∙◌}
use mathlib.Core.Logic.{by_cases}
use mathlib.Core.List.{List}
use Prim.Native.Nat.{ℕ, ◌+◌, ◌*◌, ◌-◌, ◌<◌, ◌≤◌}
use native.Mathlib.Decide.{dec_lt}
use native.Mathlib.Omega.{arith}
use lib.ListN.{length, get_or, set, length-set}
use lib.Seq.{get_or-set_same, get_or-set_other}
use borrow.Rule.Slice.PartMut.{put_mid}
use Rattle.packed.specs.Bytes.{Put}
use Rattle.packed.proofs.Bytes.{same_bytes}
use Rattle.table.specs.Entry.{word_in}
use Rattle.history.specs.declared.Draft.{Draft}
use Rattle.history.specs.Shown.{draft_in, Packs}
use Rattle.history.specs.Sound.{Whole}
use Rattle.history.proofs.Lists.{is_listed, part_before, part_inside, part_long}
use Rattle.history.proofs.Steps.{same_draft}
use Rattle.draft_bytes.specs.Table.{Words}

pub no_words : (words l : List ℕ) → Words words 0 l l
no_words words l = record { as_long = refl; there = λ i h. absurd (omega arith); behind = λ k h. refl }

-- a word is the same where its bytes are
pub same_word : (a b : List ℕ) (i : ℕ) → ((k : ℕ) → 4 * i ≤ k → k < 4 * i + 4 → get_or a k 0 ≡ get_or b k 0) → word_in a i ≡ word_in b i
unfolding word_in
same_word a b i same = same_bytes a b (4 * i) 4 same

pub one_word : (words : List ℕ) (i word : ℕ) (before bytes after : List ℕ) → Words words i before bytes → word ≡ get_or words i 0 → Put (4 * i) 4 word bytes after
    → Words words (i + 1) before after
unfolding word_in
one_word words i word before bytes after w is p =
    record {
      as_long = p.as_long ∙ w.as_long;
      there =
          λ j h.
          by_cases (dec_lt j i) (λ (less : j < i). same_bytes after bytes (4 * j) 4 (λ k low high. p.in_front k (omega arith)) ∙ w.there j less)
          (λ (g : ¬ (j < i)). let at : j ≡ i = omega arith in rw at (p.spelt ∙ is));
      behind = λ k h. p.behind k (omega arith) ∙ w.behind k (omega arith);
    }

-- bytes of which those from the saved lengths on were written anew
abbrev pub with_lengths : List ℕ → List ℕ → List ℕ
with_lengths bytes saved = put_mid 257 (length bytes - 257) bytes saved

-- the three parts of a draft, written one after the other, pack it
pub parts_pack : (d : Draft) (before first : List ℕ) → Whole d → length before ≡ 273 → Words d.entries 64 before first
    → Packs d (with_lengths (set first 256 d.count) d.saved)
unfolding draft_in
parts_pack d before first whole long words =
    let bytes = set first 256 d.count in
    let size : length first ≡ 273 = words.as_long ∙ long in
    let within : 257 ≤ length bytes = omega (arith, length-set first 256 d.count) in
    let after = with_lengths bytes d.saved in
    let same = part_before 257 (length bytes - 257) bytes d.saved within in
    record {
      long = part_long 257 (length bytes - 257) bytes d.saved within (omega (arith, whole.saved, length-set first 256 d.count)) refl ∙ length-set first 256 d.count ∙ size;
      same =
          same_draft
          (sym (is_listed d.entries (word_in after) 64 whole.entries
          (λ i h.
          sym (words.there i h)
          ∙ same_word first after i
          (λ k low high. sym (same k (omega arith) ∙ get_or-set_other first 256 k d.count 0 (omega arith))))))
          (sym (is_listed d.saved (λ name. get_or after (257 + name) 0) 16 whole.saved
          (λ name h. sym (part_inside 257 (length bytes - 257) bytes d.saved within name (omega (arith, whole.saved))))))
          (same 256 (omega arith) ∙ get_or-set_same first 256 d.count 0 (omega arith));
    }
