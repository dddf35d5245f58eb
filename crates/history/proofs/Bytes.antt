-- Drafts packed into 273 bytes: a step on them is a step on the draft, and a draft is packed in one way.
use mathlib.Core.Path.{◌≡◌, refl, sym, ap, ◌∙◌}
use mathlib.Core.Logic.{◌↔◌, by_cases}
use mathlib.Core.List.{List, ◌∷◌}
use Prim.Native.Nat.{ℕ, zero, suc, ◌+◌, ◌-◌, ◌*◌, ◌/◌, ◌%◌, ◌<◌}
use native.Mathlib.Decide.{dec_lt}
use native.Mathlib.Omega.{arith}
use lib.ListN.{length, get_or}
use lib.Seq.{ext_get_or}
use Rattle.packed.specs.Bytes.{big_endian_of}
use Rattle.table.specs.Entry.{word_in}
use Rattle.history.specs.declared.Draft.{Draft as DraftValue}
use Rattle.history.specs.declared.Step.{Step}
use Rattle.history.specs.History.{State, state}
use Rattle.history.specs.Shown.{Shows, draft_in, Packs, BytesShow}
use Rattle.history.specs.Answered.{Given, Answers}
use Rattle.history.specs.Sound.{Sound}
use Rattle.history.proofs.Lists.{get_d_listed}
use Rattle.history.proofs.Reached.{given_sound}

-- a step on the draft in the bytes, stored if it was not refused, is a step on the bytes
pub packed_answers : (step : Step) (before after : List ℕ) (d : DraftValue) (number : ℕ) → length before ≡ 273
    → Answers Shows step (draft_in before) d number → (number ≡ 0 → Packs d after) → ((number ≡ 0 → ⊥) → after ≡ before)
    → Answers BytesShow step before after number
packed_answers step before after d number long is stored kept =
    record {
      given =
          λ steps packs.
          let told = is.given steps (sym packs.same) in
          (told.0, by_number (state (step ∷ steps)) told.1 number refl);
      not_given = λ none. is.not_given (λ given. none (given.0, record { long = long; same = sym given.1 }));
      kept = kept;
    }
  where
    by_number : (s : State) → Shows d s → (n : ℕ) → number ≡ n → BytesShow after s
    by_number s shows zero none = rw shows (stored none)
    by_number s shows (suc n) some =
        let refused : number ≡ 0 → ⊥ = λ e. omega (arith, e, some) in
        rw (kept refused) (record { long = long; same = sym (shows ∙ is.kept refused) })

-- which bytes a history gives
pub bytes_given : (bytes : List ℕ) → Given BytesShow bytes ↔ ((length bytes ≡ 273) × Sound (draft_in bytes))
bytes_given bytes = (
  λ given. (given.1.long, (given_sound (draft_in bytes)).0 (given.0, sym given.1.same)),
  λ sound. let given = (given_sound (draft_in bytes)).1 sound.1 in (given.0, record { long = sound.0; same = sym given.1 }),
)

-- bytes that spell the same number are the same
same_spelt : (a b : List ℕ) (at width : ℕ) → ((k : ℕ) → get_or a k 0 < 256) → ((k : ℕ) → get_or b k 0 < 256)
    → big_endian_of a at width ≡ big_endian_of b at width → (j : ℕ) → j < width → get_or a (at + j) 0 ≡ get_or b (at + j) 0
unfolding big_endian_of
same_spelt a b at zero small-a small_b same j h = absurd (omega arith)
same_spelt a b at (suc width) small-a small_b same j h =
    let front : big_endian_of a at width ≡ big_endian_of b at width = omega (arith, same, small-a (at + width), small_b (at + width)) in
    let last : get_or a (at + width) 0 ≡ get_or b (at + width) 0 = omega (arith, same, front) in
    by_cases (dec_lt j width) (λ (l : j < width). same_spelt a b at width small-a small_b front j l)
    (λ (g : ¬ (j < width)). let here : j ≡ width = omega arith in rw here last)

-- a draft is packed in one way: what it shows fixes each byte
module _ (a b : List ℕ) (small-a : (k : ℕ) → get_or a k 0 < 256) (small_b : (k : ℕ) → get_or b k 0 < 256) (same : draft_in a ≡ draft_in b) where
  same_entry : (i j : ℕ) → i < 64 → j < 4 → get_or a (4 * i + j) 0 ≡ get_or b (4 * i + j) 0
  unfolding draft_in word_in
  same_entry i j h l =
      same_spelt a b (4 * i) 4 small-a small_b
      (sym (get_d_listed (word_in a) 64 i h) ∙ ap (λ (x : DraftValue). get_or x.entries i 0) same ∙ get_d_listed (word_in b) 64 i h)
      j l

  same_length : (name : ℕ) → name < 16 → get_or a (257 + name) 0 ≡ get_or b (257 + name) 0
  unfolding draft_in
  same_length name h =
      sym (get_d_listed (λ n. get_or a (257 + n) 0) 16 name h)
      ∙ ap (λ (x : DraftValue). get_or x.saved name 0) same
      ∙ get_d_listed (λ n. get_or b (257 + n) 0) 16 name h

  same_byte : (k : ℕ) → k < 273 → get_or a k 0 ≡ get_or b k 0
  unfolding draft_in
  same_byte k h =
      by_cases (dec_lt k 256)
      (λ (l : k < 256).
      let at : 4 * (k / 4) + k % 4 ≡ k = omega arith in
      rw at at (same_entry (k / 4) (k % 4) (omega arith) (omega arith)))
      (λ (g : ¬ (k < 256)).
      by_cases (dec_lt 256 k)
      (λ (l : 256 < k). let at : 257 + (k - 257) ≡ k = omega arith in rw at at (same_length (k - 257) (omega arith)))
      (λ (other : ¬ (256 < k)). let at : k ≡ 256 = omega arith in rw at (ap (λ (x : DraftValue). x.count) same)))

pub packed_once : (d : DraftValue) (a b : List ℕ) → ((k : ℕ) → get_or a k 0 < 256) → ((k : ℕ) → get_or b k 0 < 256) → Packs d a → Packs d b → a ≡ b
packed_once d a b small-a small_b pa pb =
    ext_get_or 0 a b (pa.long ∙ sym pb.long) (λ k h. same_byte a b small-a small_b (pa.same ∙ sym pb.same) k (omega (arith, pa.long)))
