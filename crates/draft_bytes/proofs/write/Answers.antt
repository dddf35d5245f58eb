-- `write` meets its contract: the words, the number of entries and the saved lengths, one after the other.
use borrow.Author.Rules.{rules}
use Rattle.history.specs.Sound.{Whole}
use Rattle.draft_bytes.proofs.Writing.{parts_pack}
use Rattle.draft_bytes.proofs.write.Goals as goal

pub returns : goal.returns
returns c =
    let whole : Whole c.args.draft = record { entries = search rules; saved = search rules } in
    rw c.copy_from_slice.ensures.after
    (parts_pack c.args.draft c.args.bytes.now c.write_words.new.bytes whole c.requires (rw whole.entries at c.write_words.ensures))
