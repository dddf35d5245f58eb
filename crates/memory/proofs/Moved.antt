-- Slots stay what they are where their words move: the words before them are lent, or those from a level on are lent on and come back.
use Rattle.std.proofs.Common.{◌≡◌, ℕ, suc, min, ◌+◌, ◌-◌, ◌*◌, ◌<◌, ◌≤◌, Bool, true, false, List, ◌++◌, length, get_or, take, drop, sym, ap, ◌∙◌, append-nil, le_of_eq, suc-mul, arith, length-drop, length-take-le, get_or-drop, take_all, get_or-append-add}
use native.Mathlib.Decide.{dec_lt}
use mathlib.Core.Logic.{by_cases}
use lib.ListN.{get_or-eq_default, get_or-append, length-replicate, replicate}
use Rattle.std.proofs.lemmas.List.{get_or-append_right, get_or-replicate}
use lib.Seq.{drop-length}
use borrow.Rule.Slice.PartMut.{put_mid, Post-is, same_len_mid, mid_len}
use Rattle.table.specs.declared.entry.Entry.{Entry}
use Rattle.memory.specs.Memory.{answer_code, Memory, Forgotten}

module _ (entry : ℕ → Entry) where
  -- the words of the slots are the same, at another place
  pub memory_moved : {words : List ℕ} {from : ℕ} (others : List ℕ) (to : ℕ) → Memory entry words from → ((i : ℕ) → get_or others (to + i) 0 ≡ get_or words (from + i) 0)
      → Memory entry others to
  memory_moved {words} {from} others to memory same = record {
    slot = λ k few. rw (same (3 * k), third k 1, third k 2) (memory.slot k few);
  }
    where
      third : (k j : ℕ) → get_or others (to + 3 * k + j) 0 ≡ get_or words (from + 3 * k + j) 0
      third k j =
          let a : to + 3 * k + j ≡ to + (3 * k + j) = omega arith in
          let b : from + (3 * k + j) ≡ from + 3 * k + j = omega arith in
          ap (λ (n : ℕ). get_or others n 0) a ∙ same (3 * k + j) ∙ ap (λ (n : ℕ). get_or words n 0) b

  -- the first words were lent and have come back as others, as many
  pub memory_front : (words front : List ℕ) (n from : ℕ) → length front ≡ n → n ≤ from → Memory entry words from → Memory entry (front ++ drop n words) from
  memory_front words front n from as_many below memory = memory_moved (front ++ drop n words) from memory
      (λ i.
      let a : from + i ≡ length front + (from + i - n) = omega arith in
      let b : n + (from + i - n) ≡ from + i = omega arith in
      ap (λ (k : ℕ). get_or (front ++ drop n words) k 0) a ∙ get_or-append-add front (drop n words) (from + i - n) 0 ∙ get_or-drop n words (from + i - n) 0 ∙ ap (λ (k : ℕ). get_or words k 0) b)

  module _ (words : List ℕ) (level depth : ℕ) (fits : level ≤ length words) where
    all_behind : take (length words - level) (drop level words) ≡ drop level words
    all_behind = take_all (length words - level) (drop level words) (le_of_eq (length-drop level words))

    -- the words from a level on are lent on to the next depth
    pub memory_lent : Memory entry words (suc depth * level) → Memory entry (take (length words - level) (drop level words)) (depth * level)
    memory_lent memory = rw all_behind
        (memory_moved (drop level words) (depth * level) memory
        (λ i.
        let a : level + (depth * level + i) ≡ suc depth * level + i = omega (arith, suc-mul depth level) in
        get_or-drop level words (depth * level + i) 0 ∙ ap (λ (k : ℕ). get_or words k 0) a))

    nothing_left : (worked : List ℕ) → worked ++ drop (length words - level) (drop level words) ≡ worked
    nothing_left worked = ap (λ (l : List ℕ). worked ++ l) (Post-is level (length words) words fits ∙ drop-length words) ∙ append-nil worked

    -- and come back
    pub memory_back : (worked : List ℕ) → Memory entry worked (depth * level) → Memory entry (put_mid level (length words - level) words worked) (suc depth * level)
    memory_back worked memory = memory_moved (put_mid level (length words - level) words worked) (suc depth * level) memory
        (λ i.
        let a : suc depth * level + i ≡ length (take level words) + (depth * level + i) = omega (arith, suc-mul depth level, length-take-le level words fits) in
        ap (λ (k : ℕ). get_or (put_mid level (length words - level) words worked) k 0) a
        ∙ get_or-append-add (take level words) (worked ++ drop (length words - level) (drop level words)) (depth * level + i) 0
        ∙ ap (λ (l : List ℕ). get_or l (depth * level + i) 0) (nothing_left worked))

  -- words of 0 remember nothing
  pub memory_none : (words : List ℕ) (from : ℕ) → ((i : ℕ) → from ≤ i → i < from + 49152 → get_or words i 0 ≡ 0) → Memory entry words from
  memory_none words from zero = record { slot = λ k few. record { says = λ answer e. absurd (no_code answer (sym (zero (from + 3 * k + 2) (omega arith) (omega arith)) ∙ e)) } }
    where
      no_code : (answer : Bool) → 0 ≡ answer_code answer → ⊥
      no_code true e = omega arith
      no_code false e = omega arith

-- a part of the words was filled with 0, as much as the slots take
module _ (words filled : List ℕ) (from begin end : ℕ) (first : begin ≡ min from (length words)) (last : end ≡ min (length words) (begin + 49152))
    (fill : filled ≡ replicate (length (take (end - begin) (drop begin words))) 0) where
  abbrev cleared : List ℕ
  cleared = put_mid begin (end - begin) words filled

  part : length (take (end - begin) (drop begin words)) ≡ end - begin
  part = mid_len begin end words (omega arith)

  zero : filled ≡ replicate (end - begin) 0
  zero = rw part at fill

  as_many : length filled ≡ end - begin
  as_many = ap length zero ∙ length-replicate (end - begin) 0

  same_length : length cleared ≡ length words
  same_length = same_len_mid begin (end - begin) words filled (as_many ∙ sym part)

  zero_within : (i : ℕ) → begin ≤ i → i < end → get_or cleared i 0 ≡ 0
  zero_within i a l =
      let less : i - begin < end - begin = omega arith in
      get_or-append_right (take begin words) (filled ++ drop (end - begin) (drop begin words)) begin i 0 (length-take-le begin words (omega arith)) a
      ∙ get_or-append filled (drop (end - begin) (drop begin words)) 0 (i - begin) (omega (arith, as_many))
      ∙ ap (λ (l : List ℕ). get_or l (i - begin) 0) zero ∙ get_or-replicate (end - begin) (i - begin) 0 0 less

  pub forgotten : Forgotten from words cleared
  forgotten = record {
    same_length = same_length;
    memory = λ entry. memory_none entry cleared from
        (λ i a l. by_cases (dec_lt i end) (λ (less : i < end). zero_within i (omega arith) less) (λ (past : ¬ (i < end)). get_or-eq_default cleared 0 (omega (arith, same_length))));
  }
