-- What the writer holds, from one sign to the next.
use mathlib.Core.Path.{◌≡◌, refl, sym, ap, ◌∙◌}
use mathlib.Core.Bool.{Bool, true, false, true≢false}
use mathlib.Core.List.{List, [], ◌∷◌}
use Prim.Native.Nat.{ℕ, suc, ◌+◌, ◌-◌, ◌<◌, ◌≤◌}
use native.Mathlib.Omega.{arith}
use lib.Dec.{leb}
use lib.ListN.{get_or}
use borrow.Author.Tests.{le-leb}
use Rattle.table.specs.declared.entry.Entry.{Entry}
use Rattle.table.specs.Entry.{entry_of, entry_in}
use Rattle.postorder.specs.Order.{inner, size, Ordered}
use Rattle.postorder.proofs.Meaning.{ordered_ext}
use Rattle.grammar.specs.declared.Prefix.{Prefix}
use Rattle.grammar.specs.declared.Join.{Join}
use Rattle.grammar.specs.Tree.{Tree, prefixed, joined, formula, rank}
use Rattle.grammar.specs.Parser.{Frame, bracket, waiting, left, rest, whole}
use Rattle.typed.specs.declared.pending.Waiting.{Waiting}
use Rattle.typed.specs.Held.{nothing, entry_of_prefix, entry_of_join, rank_of, Waits, Holding}
use Rattle.typed.specs.Steps.{takes_now, closed_entry}
use Rattle.typed.proofs.Entries.{prefix_closed, join_closed, prefix_rank, join_rank, prefix_ordered, join_ordered, prefix_inner, join_inner, takes_parts, takes_last}

-- what stands behind the waiting signs, and behind their operands' entries, has no influence
pub waits_ext : (stack stack' : List Waiting) (entry entry' : ℕ → Entry) (fs : List Frame) (k c n : ℕ)
    → ((i : ℕ) → i < k → get_or stack i nothing ≡ get_or stack' i nothing)
    → ((j : ℕ) → j < n → entry j ≡ entry' j) → Waits stack entry fs k c n → Waits stack' entry' fs k c n
unfolding Waits
waits_ext stack stack' entry entry' [] k c n kept same w = w
waits_ext stack stack' entry entry' (bracket ∷ fs) k c n kept same (d, is, w) =
    (d, is, waits_ext stack stack' entry entry' fs k d n kept same w)
waits_ext stack stack' entry entry' (waiting p ∷ fs) k c n kept same (i, is, deep, own, w) = (
  i,
  is,
  ap (λ (x : Waiting). x.depth) (sym (kept i (omega arith))) ∙ deep,
  ap (λ (x : Waiting). entry_of x.word) (sym (kept i (omega arith))) ∙ own,
  waits_ext stack stack' entry entry' fs i c n (λ m h. kept m (omega arith)) same w,
)
waits_ext stack stack' entry entry' (left j s ∷ fs) k c n kept same (i, b, is, counts, deep, own, part, w) = (
  i,
  b,
  is,
  counts,
  ap (λ (x : Waiting). x.depth) (sym (kept i (omega arith))) ∙ deep,
  ap (λ (x : Waiting). entry_of x.word) (sym (kept i (omega arith))) ∙ own,
  ordered_ext entry entry' b (formula s) (λ m l h. same m (omega arith)) part,
  waits_ext stack stack' entry entry' fs i c b (λ m h. kept m (omega arith)) (λ m h. same m (omega arith)) w,
)

-- a waiting sign stands no deeper than where the reader is
depth_low : (stack : List Waiting) (entry : ℕ → Entry) (fs : List Frame) (k c n i : ℕ) → k ≡ suc i → Waits stack entry fs k c n → (get_or stack i nothing).depth ≤ c
unfolding Waits
depth_low stack entry [] k c n i is w = absurd (omega (arith, w.0))
depth_low stack entry (bracket ∷ fs) k c n i is (d, deeper, w) = omega (arith, depth_low stack entry fs k d n i is w)
depth_low stack entry (waiting p ∷ fs) k c n i is w = let e : w.0 ≡ i = omega (arith, w.1) in omega (arith, ap (λ (m : ℕ). (get_or stack m nothing).depth) e, w.2)
depth_low stack entry (left j s ∷ fs) k c n i is w = let e : w.0 ≡ i = omega (arith, w.2) in omega (arith, ap (λ (m : ℕ). (get_or stack m nothing).depth) e, w.4)

-- frames and an operand that come to the same as others
pub record Taken (b : ℕ) (stack : List Waiting) (table : List ℕ) (k c n : ℕ) (fs : List Frame) (t : Tree) : Type 0 where
  pub frames : List Frame
  pub top : Tree
  pub holding : Holding stack table k c n frames top
  pub rests : rest b frames ≡ rest b fs
  pub wholes : whole b frames top ≡ whole b fs t

module _ (stack : List Waiting) (before after : List ℕ) (k c n b : ℕ) where
  -- the last waiting sign takes the operand behind it
  module _
      (takes : takes_now stack k c b ≡ true)
      (own : entry_in after n ≡ closed_entry (entry_of (get_or stack (k - 1) nothing).word) (n - 1))
      (same : (j : ℕ) → j < n → entry_in before j ≡ entry_in after j) where
    -- the entry that is written, from the one that waits
    written : (i last : ℕ) (e : Entry) → k ≡ suc i → n - 1 ≡ last → entry_of (get_or stack i nothing).word ≡ e → entry_in after n ≡ closed_entry e last
    written i last e is end waits =
        let at : k - 1 ≡ i = omega arith in
        own
        ∙ ap (λ (m : ℕ). closed_entry (entry_of (get_or stack m nothing).word) (n - 1)) at
        ∙ ap (λ (f : Entry). closed_entry f (n - 1)) waits
        ∙ ap (closed_entry e) end

    prefix_taken : (p : Prefix) (fs : List Frame) (t : Tree) (base i : ℕ) → k ≡ suc i → entry_of (get_or stack i nothing).word ≡ entry_of_prefix p 0
        → Waits stack (entry_in before) fs i c base → Ordered (entry_in before) base (formula t) → n ≡ base + size (formula t)
        → Taken b stack after (k - 1) c (n + 1) (waiting p ∷ fs) t
    unfolding rest whole formula
    prefix_taken p fs t base i is waits w o counts =
        let last : k - 1 ≡ i = omega arith in
        let end : n - 1 ≡ base + inner (formula t) = omega arith in
        let part = ordered_ext (entry_in before) (entry_in after) base (formula t) (λ j l h. same j (omega arith)) o in
        let entry : entry_in after (base + size (formula t)) ≡ entry_of_prefix p (base + inner (formula t)) =
        ap (entry_in after) (sym counts) ∙ written i _ _ is end waits ∙ prefix_closed p (base + inner (formula t)) in
        record {
          frames = fs;
          top = prefixed p t;
          holding =
              record {
                base = base;
                frames = rw last (waits_ext stack stack (entry_in before) (entry_in after) fs i c base (λ m h. refl) (λ j h. same j (omega arith)) w);
                top = prefix_ordered (entry_in after) base p (formula t) part entry;
                count = omega (arith, prefix_inner p (formula t));
              };
          rests = refl;
          wholes = refl;
        }

    join_taken : (j : Join) (s : Tree) (fs : List Frame) (t : Tree) (first base i : ℕ) → k ≡ suc i → base ≡ first + size (formula s)
        → entry_of (get_or stack i nothing).word ≡ entry_of_join j (first + inner (formula s)) 0 → Ordered (entry_in before) first (formula s)
        → Waits stack (entry_in before) fs i c first → Ordered (entry_in before) base (formula t) → n ≡ base + size (formula t)
        → Taken b stack after (k - 1) c (n + 1) (left j s ∷ fs) t
    unfolding rest whole formula
    join_taken j s fs t first base i is behind waits op w o counts =
        let last : k - 1 ≡ i = omega arith in
        let end : n - 1 ≡ first + size (formula s) + inner (formula t) = omega arith in
        let here : n ≡ first + size (formula s) + size (formula t) = omega arith in
        let yes : leb b (rank j) ≡ true =
        sym (ap (leb b) (ap (λ (m : ℕ). rank_of (entry_of (get_or stack m nothing).word).kind) last ∙ ap (λ (e : Entry). rank_of e.kind) waits ∙ join_rank j (first + inner (formula s)) 0))
        ∙ (takes_parts stack k c b takes).2 in
        let left-part = ordered_ext (entry_in before) (entry_in after) first (formula s) (λ m l h. same m (omega arith)) op in
        let right_part : Ordered (entry_in after) (first + size (formula s)) (formula t) =
        rw behind at (ordered_ext (entry_in before) (entry_in after) base (formula t) (λ m l h. same m (omega arith)) o) in
        let entry : entry_in after (first + size (formula s) + size (formula t)) ≡ entry_of_join j (first + inner (formula s)) (first + size (formula s) + inner (formula t)) =
        ap (entry_in after) (sym here) ∙ written i _ _ is end waits ∙ join_closed j (first + inner (formula s)) (first + size (formula s) + inner (formula t)) in
        record {
          frames = fs;
          top = joined j s t;
          holding =
              record {
                base = first;
                frames = rw last (waits_ext stack stack (entry_in before) (entry_in after) fs i c first (λ m h. refl) (λ m h. same m (omega arith)) w);
                top = join_ordered (entry_in after) first j (formula s) (formula t) left-part right_part entry;
                count = omega (arith, join_inner j (formula s) (formula t));
              };
          rests = rw yes refl;
          wholes = rw yes refl;
        }

    pub closes : (fs : List Frame) (t : Tree) → Holding stack before k c n fs t → Taken b stack after (k - 1) c (n + 1) fs t
    unfolding Waits
    closes [] t h = absurd (omega (arith, h.frames.0, (takes_parts stack k c b takes).0))
    closes (bracket ∷ fs) t h =
        let parts = takes_parts stack k c b takes in
        let (d, deeper, w) = h.frames in
        absurd (omega (arith, parts.1, depth_low stack (entry_in before) fs k d h.base (k - 1) (omega arith) w))
    closes (waiting p ∷ fs) t h =
        let (i, is, deep, waits, w) = h.frames in
        prefix_taken p fs t h.base i is waits w h.top h.count
    closes (left j s ∷ fs) t h =
        let (i, first, is, behind, deep, waits, op, w) = h.frames in
        join_taken j s fs t first h.base i is behind waits op w h.top h.count

  -- whether the last waiting sign takes the operand hangs on how closely it binds
  top_rank : {q : Bool} (i : ℕ) → k ≡ suc i → (get_or stack i nothing).depth ≡ c → (e : Entry) → entry_of (get_or stack i nothing).word ≡ e → (r : ℕ) → rank_of e.kind ≡ r
      → takes_now stack k c b ≡ q → leb b r ≡ q
  top_rank i is deep e waits r ranks test =
      let last : i ≡ k - 1 = omega arith in
      takes_last stack k c b (λ none. omega arith) (ap (λ (m : ℕ). (get_or stack m nothing).depth) (sym last) ∙ deep)
      (sym waits ∙ ap (λ (m : ℕ). entry_of (get_or stack m nothing).word) last) (sym ranks)
      ∙ test

  -- no waiting sign takes the operand: it stays
  pub stays : (fs : List Frame) (t : Tree) (m : ℕ) → b ≤ 2 → takes_now stack k c b ≡ false → Waits stack (entry_in before) fs k c m
      → (rest b fs ≡ fs) × (whole b fs t ≡ t)
  unfolding Waits rest whole
  stays [] t m low none w = (refl, refl)
  stays (bracket ∷ fs) t m low none w = (refl, refl)
  stays (waiting p ∷ fs) t m low none (i, is, deep, waits, w) =
      absurd (true≢false (sym (le-leb b 2 low) ∙ top_rank i is deep _ waits 2 (prefix_rank p 0) none))
  stays (left j s ∷ fs) t m low none (i, first, is, behind, deep, waits, op, w) =
      let no : leb b (rank j) ≡ false = top_rank i is deep _ waits (rank j) (join_rank j (first + inner (formula s)) 0) none in
      (rw no refl, rw no refl)
