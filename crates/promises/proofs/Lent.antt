-- The list, where the words of the level are as before, or those of all levels were lent.
use mathlib.Core.Path.{◌≡◌, sym, ap, ◌∙◌}
use mathlib.Core.List.{List, ◌++◌}
use Prim.Native.Nat.{ℕ, ◌+◌, ◌-◌, ◌<◌, ◌≤◌}
use native.Mathlib.Omega.{arith}
use lib.ListN.{length, get_or, take, drop}
use lib.Seq.{get_or-take, take-take, take_at}
use Rattle.tableau.specs.Search.{Problem}
use Rattle.listed.proofs.Codes.{codes_alike}
use Rattle.relaxing.specs.Relaxing.{SameBelow}
use Rattle.cases.specs.Levels.{list_room}
use Rattle.promises.specs.Listing.{list_of, Lists}

module _ (n : ℕ) {k level : ℕ} (some : k ≤ list_room n) (room : list_room n ≤ level) (before after : List ℕ) where
  pub list_kept : take level after ≡ take level before → list_of n level after k ≡ list_of n level before k
  list_kept same = codes_alike before after (level - list_room n) k
      (λ j l. let inside : level - list_room n + j < level = omega arith in
      sym (get_or-take level after _ 0 inside) ∙ ap (λ (l : List ℕ). get_or l (level - list_room n + j) 0) same ∙ get_or-take level before _ 0 inside)

-- the words of the level are among those that are lent
pub list_lent : (n k level reach : ℕ) (work : List ℕ) → k ≤ list_room n → list_room n ≤ level → level ≤ reach → list_of n level (take reach work) k ≡ list_of n level work k
list_lent n k level reach work some room inside = list_kept n some room work (take reach work) (take-take level reach work inside)

-- the words of all levels were lent, and the list is as before
pub lists_lent : (P : Problem) {k level reach : ℕ} (work front : List ℕ) → list_room P.n ≤ level → level ≤ reach → length front ≡ reach
    → SameBelow (level - list_room P.n + k) (take reach work) front → Lists P k level work → Lists P k level (front ++ drop reach work)
lists_lent P {k} {level} {reach} work front room inside as_many same lists = record {
  some = lists.some;
  fit = λ b h. lists.fit b (rw (codes_alike work (front ++ drop reach work) (level - list_room P.n) k alike) at h);
}
  where
    alike : (j : ℕ) → j < k → get_or (front ++ drop reach work) (level - list_room P.n + j) 0 ≡ get_or work (level - list_room P.n + j) 0
    alike j l =
        let below : level - list_room P.n + j < reach = omega (arith, lists.some) in
        sym (get_or-take reach (front ++ drop reach work) _ 0 below)
        ∙ ap (λ (words : List ℕ). get_or words (level - list_room P.n + j) 0) (take_at front (drop reach work) reach as_many)
        ∙ same.word _ (omega arith)
        ∙ get_or-take reach work _ 0 below
