-- The answers that are kept behind the levels, where the words of a level are lent and where the rest is lent on.
use mathlib.Core.Path.{◌≡◌, sym, ap, ◌∙◌}
use mathlib.Core.List.{List, ◌++◌}
use Prim.Native.Nat.{ℕ, suc, ◌-◌, ◌*◌, ◌^◌, ◌<◌, ◌≤◌}
use native.Mathlib.Nat.{suc-mul, mul-le-mul, le_refl, le_of_eq}
use native.Mathlib.Omega.{arith}
use lib.ListN.{length, take, drop}
use lib.Seq.{take-take}
use borrow.Rule.Slice.PartMut.{put_mid}
use Rattle.table.specs.declared.entry.Entry.{Entry}
use Rattle.memory.proofs.Moved.{memory_front, memory_lent, memory_back}
use Rattle.cases.specs.Levels.{Roomy, Remembers, Reckoned}

-- where there is room, where the levels end can be reckoned
pub room_reckoned : {entry : ℕ → Entry} {n depth level words : ℕ} → Roomy entry n depth level words → words < 2 ^ 64 → Reckoned depth level
room_reckoned {depth = depth} {level} room small =
    let wide : 1 ≤ level = omega (arith, room.stack) in
    record { deep = omega (arith, mul-le-mul (le_refl (suc depth)) wide, room.levels); fits = omega (arith, room.levels) }

module _ (entry : ℕ → Entry) (work : List ℕ) (depth level : ℕ) (deep : 0 < depth) (fits : level ≤ length work) where
  one_less : suc (depth - 1) ≡ depth
  one_less = omega arith

  -- the rest of the words is lent on, and comes back
  pub memory_below : Remembers entry depth level work → Remembers entry (depth - 1) level (take (length work - level) (drop level work))
  memory_below memory = rw one_less (memory_lent entry work level depth fits memory)

  pub memory_above : (worked : List ℕ) → Remembers entry (depth - 1) level worked → Remembers entry depth level (put_mid level (length work - level) work worked)
  memory_above worked memory = memory_back entry work level depth fits worked (rw one_less at memory)

-- the words of the level are lent and come back
pub memory_over : (entry : ℕ → Entry) (work front : List ℕ) (depth level : ℕ) → length front ≡ level → Remembers entry depth level work
    → Remembers entry depth level (front ++ drop level work)
memory_over entry work front depth level as_many memory = memory_front entry work front level (suc depth * level) as_many (omega (arith, suc-mul depth level)) memory

-- an answer was stored behind the levels
pub next_same : (depth level : ℕ) (after mid before : List ℕ) → take (suc depth * level) after ≡ take (suc depth * level) mid → take level mid ≡ take level before
    → take level after ≡ take level before
next_same depth level after mid before stored kept =
    let below : level ≤ suc depth * level = omega (arith, suc-mul depth level) in
    sym (take-take level (suc depth * level) after below) ∙ ap (take level) stored ∙ take-take level (suc depth * level) mid below ∙ kept

-- the words of all levels are lent and come back
pub memory_levels : (entry : ℕ → Entry) (work front : List ℕ) (depth level reach : ℕ) → reach ≡ suc depth * level → length front ≡ reach
    → Remembers entry depth level work → Remembers entry depth level (front ++ drop reach work)
memory_levels entry work front depth level reach is as_many memory = memory_front entry work front reach (suc depth * level) as_many (le_of_eq is) memory
