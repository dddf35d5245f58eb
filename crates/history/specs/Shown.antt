-- What a history gives, as a draft by value: document 02, P9, and the packed draft of the calls for C.
use Rattle.std.specs.Prelude.{Option, None, Some, ◌≡◌, List, [], ◌∷◌, ◌++◌, ℕ, zero, suc, ◌+◌, length, get_or}
use Rattle.table.specs.Entry.{word_in}
use Rattle.history.specs.declared.Draft.{Draft}
use Rattle.history.specs.History.{State}

-- f 0, f 1, .. below a bound
unfoldable pub listed : (ℕ → ℕ) → ℕ → List ℕ
listed f zero = []
listed f (suc n) = listed f n ++ (f n ∷ [])

-- how many entries are saved, 255 for "not saved"
abbrev pub length_of : Option (List ℕ) → ℕ
length_of None = 255
length_of (Some copy) = length copy

-- the entries, with 0 behind them ("clears the bytes behind them"), the saved lengths of the 16 names, the number of entries
unfoldable pub draft_of : State → Draft
draft_of s =
    record {
      entries = listed (λ i. get_or s.entries i 0) 64;
      saved = listed (λ name. length_of (s.saved name)) 16;
      count = length s.entries;
    }

-- a draft by value shows a state
abbrev pub Shows : Draft → State → Type 0
Shows d s = draft_of s ≡ d

-- the draft in packed bytes: 64 entries of 4 bytes, the number of entries, 16 saved lengths
unfoldable pub draft_in : List ℕ → Draft
draft_in bytes =
    record { entries = listed (word_in bytes) 64; saved = listed (λ name. get_or bytes (257 + name) 0) 16; count = get_or bytes 256 0 }

-- 273 bytes pack a draft
pub record Packs (d : Draft) (bytes : List ℕ) : Type 0 where
  pub long : length bytes ≡ 273
  pub same : draft_in bytes ≡ d

-- such bytes show a state
abbrev pub BytesShow : List ℕ → State → Type 0
BytesShow bytes s = Packs (draft_of s) bytes
