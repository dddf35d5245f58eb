-- The steps on drafts by value, as the code takes them. An inner contract.
use Rattle.std.specs.Prelude.{if◌then◌else◌, is_err, Bool, not, ◌||◌, List, ℕ, ◌+◌, eqb, leb, ltb, get_or, set}
use Rattle.faults.specs.declared.Fault.TheVariants.{TableLength, Draft}
use Rattle.faults.specs.Verdict.{Verdict, refuse_if, and_then, each}
use Rattle.table.specs.Entry.{entry_of}
use Rattle.table.specs.Check.{entry_verdict}
use Rattle.history.specs.declared.Draft.{Draft as DraftValue}
use Rattle.history.specs.declared.Step.{Step}
use Rattle.history.specs.declared.Step.TheVariants.{Add, Save, Back}
use Rattle.history.specs.History.{unless}
use Rattle.history.specs.Shown.{listed}

-- word i of a draft with so many entries is neither a good entry nor, behind them, 0
abbrev pub bad_word : (count word i : ℕ) → Bool
bad_word count word i = if ltb i count then is_err (entry_verdict (entry_of word) i) else not (eqb word 0)

abbrev pub word_verdict : (count word i : ℕ) → Verdict
word_verdict count word i = refuse_if (bad_word count word i) Draft

-- a saved length of such a draft that is neither "not saved" nor within it
abbrev pub bad_length : (count saved : ℕ) → Bool
bad_length count saved = not (eqb saved 255 || leb saved count)

abbrev pub length_verdict : (count saved : ℕ) → Verdict
length_verdict count saved = refuse_if (bad_length count saved) Draft

abbrev pub words_verdict : ℕ → List ℕ → Verdict
words_verdict count words = each (λ i. word_verdict count (get_or words i 0) i) 64

abbrev pub lengths_verdict : ℕ → List ℕ → Verdict
lengths_verdict count saved = each (λ name. length_verdict count (get_or saved name 0)) 16

-- 16 for a draft that no sequence gives
unfoldable pub draft_verdict : DraftValue → Verdict
draft_verdict d =
    and_then (refuse_if (ltb 64 d.count) Draft) (and_then (words_verdict d.count d.entries) (lengths_verdict d.count d.saved))

-- what a step on a draft that a sequence gives is refused for
abbrev pub own_verdict : Step → DraftValue → Verdict
own_verdict (Add entry) d = and_then (refuse_if (leb 64 d.count) TableLength) (entry_verdict (entry_of entry) d.count)
own_verdict (Save name) d = refuse_if (ltb 15 name) Draft
own_verdict (Back name) d = refuse_if (ltb 15 name || eqb (get_or d.saved name 0) 255) Draft

abbrev pub step_verdict : Step → DraftValue → Verdict
step_verdict step d = and_then (draft_verdict d) (own_verdict step d)

-- the first words, and 0 behind them
abbrev pub leading_words : ℕ → List ℕ → List ℕ
leading_words many words = listed (λ i. if ltb i many then get_or words i 0 else 0) 64

-- the saved lengths that are not greater, the others forgotten
abbrev pub up_to : ℕ → List ℕ → List ℕ
up_to many saved = listed (λ name. if ltb many (get_or saved name 0) then 255 else get_or saved name 0) 16

abbrev pub stepped : Step → DraftValue → DraftValue
stepped (Add entry) d = record { entries = set d.entries d.count entry; saved = d.saved; count = d.count + 1 }
stepped (Save name) d = record { entries = d.entries; saved = set d.saved name d.count; count = d.count }
stepped (Back name) d =
    let many : ℕ = get_or d.saved name 0 in
    record { entries = leading_words many d.entries; saved = up_to many d.saved; count = many }

-- the draft after a step
abbrev pub after_step : Step → DraftValue → DraftValue
after_step step d = unless (step_verdict step d) (stepped step d) d
