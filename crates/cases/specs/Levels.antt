-- The lent words: a level of them for each depth, and behind the levels the answers that are kept.
use Rattle.std.specs.Prelude.{List, ℕ, suc, ◌+◌, ◌*◌, ◌^◌, ◌<◌, ◌≤◌}
use Rattle.table.specs.declared.entry.Entry.{Entry}
use Rattle.table.specs.Space.{sum_of_grades}
use Rattle.memory.specs.Memory.{Memory}

-- how many sets of promises can be listed for n entries
abbrev pub list_room : ℕ → ℕ
list_room n = 8 * n + 8

-- There are words for this depth: a level of them for each depth down to 0, and a level has room for the stack of a search and a list of sets.
pub record Roomy (entry : ℕ → Entry) (n depth level words : ℕ) : Type 0 where
  pub stack : 2 * sum_of_grades entry n + 2 + list_room n ≤ level
  pub levels : suc depth * level ≤ words

-- the answers kept behind the levels are right
abbrev pub Remembers : (ℕ → Entry) → (depth level : ℕ) → List ℕ → Type 0
Remembers entry depth level work = Memory entry work (suc depth * level)

-- where the levels end can be reckoned in a word
pub record Reckoned (depth level : ℕ) : Type 0 where
  pub deep : suc depth < 2 ^ 64
  pub fits : suc depth * level < 2 ^ 64
