-- The numbers of the kinds of entries: document 01, "The description table".
use Rattle.std.specs.Prelude.{ℕ}
use Rattle.table.specs.declared.kind.Kind.{Kind}

abbrev pub kind_number : Kind → ℕ
kind_number Kind.True = 0
kind_number Kind.False = 1
kind_number Kind.Fact = 2
kind_number Kind.Not = 3
kind_number Kind.And = 4
kind_number Kind.Or = 5
kind_number Kind.AtLeast = 6
kind_number Kind.AtMost = 7
