-- One sign is taken: what the writer holds afterwards is the reader's next state.
use mathlib.Core.Path.{◌≡◌, refl, sym, ap, ◌∙◌}
use mathlib.Core.List.{List, [], ◌∷◌}
use mathlib.Core.Logic.{by_cases}
use native.Mathlib.Decide.{dec_lt}
use native.Mathlib.Numerals.{add-one}
use Prim.Native.Nat.{ℕ, suc, ◌+◌, ◌-◌, ◌<◌, ◌≤◌}
use native.Mathlib.Omega.{arith}
use Rattle.table.specs.declared.entry.Entry.{Entry}
use Rattle.table.specs.Entry.{entry_in, Packable, PutEntry}
use Rattle.postorder.specs.Order.{inner}
use Rattle.grammar.specs.declared.Leaf.{Leaf}
use Rattle.grammar.specs.declared.Prefix.{Prefix}
use Rattle.grammar.specs.declared.Join.{Join}
use Rattle.grammar.specs.declared.Sign.{Sign}
use Rattle.grammar.specs.Tree.{Tree, leaf, bracketed, formula, rank}
use Rattle.grammar.specs.Parser.{Frame, bracket, waiting, left, State, operand, operator, failed, rest, whole, closed, step, opens}
use Rattle.grammar.proofs.Reader.{to_end}
use Rattle.typed.specs.declared.pending.Writer.{Writer}
use Rattle.typed.specs.declared.pending.Waiting.{Waiting}
use Rattle.typed.specs.Held.{entry_of_leaf, entry_of_prefix, entry_of_join, Waits, Holding, At, Behind}
use Rattle.typed.specs.Steps.{Pushed, Settled, Took, Goes}
use Rattle.typed.proofs.Entries.{leaf_ordered, leaf_inner}
use Rattle.typed.proofs.Held.{waits_ext}

-- numbers up to 255 can be packed
pub join_packable : (j : Join) (first : ℕ) → first < 64 → Packable (entry_of_join j first 0)
join_packable Join.And first low = record { kind = omega arith; name = omega arith; first = low; second = omega arith; grade = omega arith }
join_packable Join.Or first low = record { kind = omega arith; name = omega arith; first = low; second = omega arith; grade = omega arith }

-- the same behind more entries
pub behind_more : {n m : ℕ} {before after : List ℕ} → n ≤ m → Behind n before after → Behind m before after
behind_more more b = record { as_long = b.as_long; same = λ i h. b.same i (omega arith) }

pub behind_then : {n : ℕ} {before between after : List ℕ} → Behind n before between → Behind n between after → Behind n before after
behind_then a b = record { as_long = b.as_long ∙ a.as_long; same = λ i h. b.same i h ∙ a.same i h }

module _ (before after : List ℕ) (writer : Writer) where
  -- a leaf's entry is put behind the operands
  module _ (l : Leaf) (between : List ℕ) (next r : Writer) (put : PutEntry writer.entries (entry_of_leaf l) before between)
      (is : next ≡ record { entries = writer.entries + 1; stack = writer.stack; pending = writer.pending; depth = writer.depth })
      (settled : Settled 2 between after next r) where
    leaf_held : (fs : List Frame) → Waits writer.stack (entry_in before) fs writer.pending writer.depth writer.entries
        → Holding next.stack between next.pending next.depth next.entries fs (leaf l)
    unfolding formula
    leaf_held fs w =
        rw is
        (record {
          base = writer.entries;
          frames = waits_ext writer.stack writer.stack (entry_in before) (entry_in between) fs writer.pending writer.depth writer.entries (λ i h. refl) (λ j h. sym (put.in_front j h)) w;
          top = leaf_ordered (entry_in between) writer.entries l put.there;
          count = omega (arith, leaf_inner l);
        })

    leaf_goes : (σ : State) → At writer.stack before writer.pending writer.depth writer.entries σ → (step σ (Sign.Alone l) ≡ failed → ⊥)
        → At r.stack after r.pending r.depth r.entries (step σ (Sign.Alone l))
    unfolding step At
    leaf_goes (operand fs) at ok = settled.holds fs (leaf l) (leaf_held fs at)
    leaf_goes (operator fs t) at ok = absurd (ok refl)
    leaf_goes failed at ok = at

    pub leaf_took : Took (Sign.Alone l) before after writer r
    leaf_took =
        let counts : next.entries + next.pending ≡ writer.entries + writer.pending + 1 =
        omega (arith, ap (λ (p : Writer). p.entries) is, ap (λ (p : Writer). p.pending) is) in
        record {
          total = settled.total ∙ counts;
          behind =
              behind_then
              (record { as_long = put.as_long; same = λ i h. put.behind i (omega arith) })
              (behind_more (omega arith) settled.behind);
          shallow = omega (arith, settled.depth, ap (λ (p : Writer). p.depth) is);
          holds = leaf_goes;
        }

-- a prefix waits
module _ (table : List ℕ) (writer r : Writer) (p : Prefix) (pushed : Pushed (entry_of_prefix p 0) writer r) where
  prefix_goes : (σ : State) → At writer.stack table writer.pending writer.depth writer.entries σ → (step σ (Sign.Before p) ≡ failed → ⊥)
      → At r.stack table (writer.pending + 1) writer.depth writer.entries (step σ (Sign.Before p))
  unfolding step At Waits
  prefix_goes (operand fs) at ok = (
    writer.pending,
    add-one writer.pending,
    pushed.opened,
    pushed.entry,
    waits_ext writer.stack r.stack (entry_in table) (entry_in table) fs writer.pending writer.depth writer.entries
        (λ i h. sym (pushed.below i h)) (λ j h. refl) at,
  )
  prefix_goes (operator fs t) at ok = absurd (ok refl)
  prefix_goes failed at ok = at

  pub prefix_took : Took (Sign.Before p) table table writer r
  prefix_took =
      record {
        total = omega (arith, pushed.entries, pushed.pending);
        behind = record { as_long = refl; same = λ i h. refl };
        shallow = omega (arith, pushed.depth);
        holds = λ σ at ok. rw (pushed.pending, pushed.depth, pushed.entries) (prefix_goes σ at ok);
      }

-- a bracket is opened
module _ (table : List ℕ) (writer : Writer) where
  open_goes : (σ : State) → At writer.stack table writer.pending writer.depth writer.entries σ → (step σ Sign.Open ≡ failed → ⊥)
      → At writer.stack table writer.pending (writer.depth + 1) writer.entries (step σ Sign.Open)
  unfolding step At Waits
  open_goes (operand fs) at ok = (writer.depth, add-one writer.depth, at)
  open_goes (operator fs t) at ok = absurd (ok refl)
  open_goes failed at ok = at

  pub open_took : Took Sign.Open table table writer (record { entries = writer.entries; stack = writer.stack; pending = writer.pending; depth = writer.depth + 1 })
  open_took =
      record {
        total = omega arith;
        behind = record { as_long = refl; same = λ i h. refl };
        shallow = omega arith;
        holds = open_goes;
      }

-- a sign between operands: those before it take theirs, and it waits
module _ (before after : List ℕ) (writer here r : Writer) (j : Join) (first : ℕ) (is_last : first ≡ here.entries - 1)
    (some : 1 ≤ writer.entries) (settled : Settled (rank j) before after writer here)
    (pushed : Pushed (entry_of_join j first 0) here r) where
  join_goes : (σ : State) → At writer.stack before writer.pending writer.depth writer.entries σ → (step σ (Sign.Between j) ≡ failed → ⊥)
      → At r.stack after (here.pending + 1) here.depth here.entries (step σ (Sign.Between j))
  unfolding step At Waits
  join_goes (operand fs) at ok = absurd (ok refl)
  join_goes (operator fs t) at ok =
      let now = settled.holds fs t at in
      let last : first ≡ now.base + inner (formula (whole (rank j) fs t)) = omega (arith, is_last, now.count) in (
        here.pending,
        now.base,
        add-one here.pending,
        now.count,
        pushed.opened,
        pushed.entry ∙ ap (λ (m : ℕ). entry_of_join j m 0) last,
        now.top,
        waits_ext here.stack r.stack (entry_in after) (entry_in after) (rest (rank j) fs) here.pending here.depth now.base
            (λ i h. sym (pushed.below i h)) (λ m h. refl) now.frames,
      )
  join_goes failed at ok = at

  pub join_took : Took (Sign.Between j) before after writer r
  join_took =
      record {
        total = omega (arith, settled.total, pushed.entries, pushed.pending);
        behind = behind_more (omega arith) settled.behind;
        shallow = omega (arith, settled.depth, pushed.depth);
        holds = λ σ at ok. rw (pushed.pending, pushed.depth, pushed.entries) (join_goes σ at ok);
      }

-- how many brackets are open
pub waits_opens : (stack : List Waiting) (entry : ℕ → Entry) (fs : List Frame) (k c n : ℕ) → Waits stack entry fs k c n → c ≡ opens fs
unfolding Waits opens
waits_opens stack entry [] k c n w = w.1
waits_opens stack entry (bracket ∷ fs) k c n w = w.1 ∙ ap suc (waits_opens stack entry fs k w.0 n w.2)
waits_opens stack entry (waiting p ∷ fs) k c n w = waits_opens stack entry fs w.0 c n w.4
waits_opens stack entry (left j s ∷ fs) k c n w = waits_opens stack entry fs w.0 c w.1 w.7

-- a bracket is closed
module _ (before between after : List ℕ) (writer here outside r : Writer)
    (settled : Settled 0 before between writer here)
    (is : outside ≡ record { entries = here.entries; stack = here.stack; pending = here.pending; depth = here.depth - 1 })
    (settled-outside : Settled 2 between after outside r) where
  closed_goes : (fs : List Frame) (t : Tree) → Holding here.stack between here.pending here.depth here.entries fs t → (closed fs t ≡ failed → ⊥)
      → At r.stack after r.pending r.depth r.entries (closed fs t)
  unfolding At Waits formula
  closed_goes [] t h ok = absurd (ok refl)
  closed_goes (bracket ∷ fs) t h ok =
      let (d, deeper, w) = h.frames in
      let out : here.depth - 1 ≡ d = omega arith in
      let held : Holding outside.stack between outside.pending outside.depth outside.entries fs (bracketed t) =
      rw (is, out) (record { base = h.base; frames = w; top = h.top; count = h.count }) in
      settled-outside.holds fs (bracketed t) held
  closed_goes (waiting p ∷ fs) t h ok = absurd (ok refl)
  closed_goes (left j s ∷ fs) t h ok = absurd (ok refl)

  close_goes : (σ : State) → At writer.stack before writer.pending writer.depth writer.entries σ → (step σ Sign.Close ≡ failed → ⊥)
      → At r.stack after r.pending r.depth r.entries (step σ Sign.Close)
  unfolding step At
  close_goes (operand fs) at ok = absurd (ok refl)
  close_goes (operator fs t) at ok = closed_goes (rest 0 fs) (whole 0 fs t) (settled.holds fs t at) ok
  close_goes failed at ok = at

  pub close_took : Took Sign.Close before after writer r
  close_took =
      let counts : outside.entries + outside.pending ≡ here.entries + here.pending =
      omega (arith, ap (λ (p : Writer). p.entries) is, ap (λ (p : Writer). p.pending) is) in
      let all : outside.entries + outside.pending ≡ writer.entries + writer.pending = counts ∙ settled.total in
      record {
        total = omega (arith, settled-outside.total);
        behind = behind_more (omega arith) (behind_then settled.behind (behind_more (omega arith) settled-outside.behind));
        shallow = omega (arith, settled.depth, settled-outside.depth, ap (λ (p : Writer). p.depth) is);
        holds = close_goes;
      }

-- what a sign that does not fail finds: an operand before it, and a bracket to close
module _ (table : List ℕ) (writer : Writer) where
  pub operand_there : (j : Join) → Goes (Sign.Between j) table writer → 1 ≤ writer.entries
  unfolding step At
  operand_there j g = there g.state g.at g.goes
    where
      there : (σ : State) → At writer.stack table writer.pending writer.depth writer.entries σ → (step σ (Sign.Between j) ≡ failed → ⊥) → 1 ≤ writer.entries
      there (operand fs) at ok = absurd (ok refl)
      there (operator fs t) at ok = omega (arith, at.count)
      there failed at ok = absurd at

  pub bracket_there : Goes Sign.Close table writer → (1 ≤ writer.entries) × (1 ≤ writer.depth)
  unfolding step At
  bracket_there g = there g.state g.at g.goes
    where
      there : (σ : State) → At writer.stack table writer.pending writer.depth writer.entries σ → (step σ Sign.Close ≡ failed → ⊥)
          → (1 ≤ writer.entries) × (1 ≤ writer.depth)
      there (operand fs) at ok = absurd (ok refl)
      there (operator fs t) at ok = (
        omega (arith, at.count),
        by_cases (dec_lt 0 writer.depth) (λ l. l)
            (λ g.
            let none : opens fs ≡ 0 = omega (arith, waits_opens writer.stack (entry_in table) fs writer.pending writer.depth at.base at.frames) in
            absurd (ok (ap (λ (gs : List Frame). closed gs (whole 0 fs t)) (to_end fs none)))),
      )
      there failed at ok = absurd at
