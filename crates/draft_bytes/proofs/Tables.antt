-- What the call of a table has to answer.
use mathlib.Core.Path.{◌≡◌, refl, sym, ap, ◌∙◌}
use mathlib.Core.List.{List}
use Prim.Native.Nat.{ℕ, ◌*◌, ◌<◌, ◌≤◌}
use native.Mathlib.Omega.{arith}
use lib.ListN.{length, take}
use lib.Seq.{get_or-take, length-take-le}
use borrow.Author.Tests.{lt-ltb, le-ltb}
use Rattle.std.specs.Prelude.{Ok, Err}
use Rattle.faults.specs.declared.Fault.{Fault}
use Rattle.faults.specs.declared.Fault.TheVariants.{Space}
use Rattle.faults.specs.Verdict.{accepted, number_of}
use Rattle.faults.proofs.Numbers.{no_fault, accepted_refused}
use Rattle.history.specs.declared.Draft.{Draft}
use Rattle.history.specs.History.{state}
use Rattle.history.specs.Sound.{Whole}
use Rattle.history.specs.Stepping.{draft_verdict}
use Rattle.history.proofs.Reached.{given_sound, shown_count, shown_word}
use Rattle.history.proofs.Answers.{given_accepted, not_given_refused}
use Rattle.draft_bytes.specs.Table.{Words, TableIs}

-- what a check of the draft that found nothing says of its length
pub few_checked : (d : Draft) → length d.entries ≡ 64 → length d.saved ≡ 16 → draft_verdict d ≡ accepted → d.count ≤ 64
few_checked d entries saved ok = ((given_sound d).0 ((given_accepted d (record { entries = entries; saved = saved })).1 ok)).few

module _ (d : Draft) (whole : Whole d) where
  -- 16
  pub not_given_table : (f : Fault) → draft_verdict d ≡ Err f → (l : List ℕ) → TableIs d l l (Err f)
  not_given_table f is l =
      record {
        given = λ steps shows. absurd (accepted_refused (sym ((given_accepted d whole).0 (steps, shows)) ∙ is));
        written = λ steps shows ok. absurd (no_fault f ok);
        not_given = λ none. ap number_of (not_given_refused d f is);
        kept = λ refused. refl;
      }

  module _ (ok : draft_verdict d ≡ accepted) where
    abbrev entries : List ℕ
    entries = take d.count d.entries

    enough : d.count ≤ length d.entries
    enough = omega (arith, whole.entries, few_checked d whole.entries whole.saved ok)

    entries_long : length entries ≡ d.count
    entries_long = length-take-le d.count d.entries enough

    -- 10
    pub short_table : (l : List ℕ) → length l < 4 * length entries → TableIs d l l (Err Space)
    short_table l less =
        record {
          given = λ steps shows. rw (lt-ltb (length l) (4 * length (state steps).entries) (omega (arith, entries_long, shown_count (state steps) shows)));
          written = λ steps shows is. absurd (no_fault Space is);
          not_given = λ none. absurd (none ((given_accepted d whole).1 ok));
          kept = λ refused. refl;
        }

    -- the entries
    pub full_table : (before after : List ℕ) → 4 * length entries ≤ length before → Words entries (length entries) before after → TableIs d before after (Ok (length entries))
    full_table before after room words =
        record {
          given = λ steps shows. rw (le-ltb (length before) (4 * length (state steps).entries) (omega (arith, entries_long, shown_count (state steps) shows)));
          written =
              λ steps shows is.
              let count = shown_count (state steps) shows in (
                entries_long ∙ count,
                record {
                  as_long = words.as_long;
                  there =
                      λ i h.
                      words.there i (omega (arith, entries_long))
                      ∙ get_or-take d.count d.entries i 0 (omega arith)
                      ∙ shown_word (state steps) shows i (omega (arith, ((given_sound d).0 (steps, shows)).few));
                  behind = λ k h. words.behind k (omega (arith, entries_long));
                },
              );
          not_given = λ none. absurd (none ((given_accepted d whole).1 ok));
          kept = λ refused. absurd (refused refl);
        }
