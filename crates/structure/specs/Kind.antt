-- The numbers of the kinds of records: document 01, "The drawn build".
use Rattle.std.specs.Prelude.{ℕ}
use Rattle.structure.specs.declared.record.RecordKind.{RecordKind}

abbrev pub kind_number : RecordKind → ℕ
kind_number RecordKind.Header = 0
kind_number RecordKind.Fact = 1
kind_number RecordKind.Link = 2
