-- The entries of a formula in a table of its own: document 02, P1: "operands before their sign and left before right, nothing shared,
-- so the answer stands last".
use Rattle.std.specs.Prelude.{◌≡◌, ℕ, ◌+◌}
use Rattle.semantics.specs.Formula.{Formula, verum, falsum, fact, neg, conj, disj, at_least, at_most}
use Rattle.table.specs.declared.entry.Entry.{Entry}

-- how many entries stand before a formula's own: those of its operands
unfoldable pub inner : Formula → ℕ
inner verum = 0
inner falsum = 0
inner (fact p) = 0
inner (neg φ) = inner φ + 1
inner (conj φ ψ) = (inner φ + 1) + (inner ψ + 1)
inner (disj φ ψ) = (inner φ + 1) + (inner ψ + 1)
inner (at_least n r φ) = inner φ + 1
inner (at_most n r φ) = inner φ + 1

-- how many entries a formula has
abbrev pub size : Formula → ℕ
size φ = inner φ + 1

-- entries by document 01's kinds; the fields that a kind does not use are 0
abbrev pub plain : ℕ → Entry
plain kind = record { kind = kind; name = 0; first = 0; second = 0; grade = 0 }

abbrev pub named : ℕ → Entry
named name = record { kind = 2; name = name; first = 0; second = 0; grade = 0 }

abbrev pub negated : ℕ → Entry
negated first = record { kind = 3; name = 0; first = first; second = 0; grade = 0 }

abbrev pub joining : (kind first second : ℕ) → Entry
joining kind first second = record { kind = kind; name = 0; first = first; second = second; grade = 0 }

abbrev pub counting : (kind grade relation first : ℕ) → Entry
counting kind grade relation first = record { kind = kind; name = relation; first = first; second = 0; grade = grade }

-- The entries from number b on are those of the formula: those of its first operand, those of its second, then its own, which refers to
-- the last entry of each operand.
unfoldable pub Ordered : (ℕ → Entry) → ℕ → Formula → Type 0
Ordered entry b verum = entry b ≡ plain 0
Ordered entry b falsum = entry b ≡ plain 1
Ordered entry b (fact p) = entry b ≡ named p
Ordered entry b (neg φ) = Ordered entry b φ × (entry (b + size φ) ≡ negated (b + inner φ))
Ordered entry b (conj φ ψ) =
    Ordered entry b φ
    × Ordered entry (b + size φ) ψ
    × (entry (b + size φ + size ψ) ≡ joining 4 (b + inner φ) (b + size φ + inner ψ))
Ordered entry b (disj φ ψ) =
    Ordered entry b φ
    × Ordered entry (b + size φ) ψ
    × (entry (b + size φ + size ψ) ≡ joining 5 (b + inner φ) (b + size φ + inner ψ))
Ordered entry b (at_least n r φ) = Ordered entry b φ × (entry (b + size φ) ≡ counting 6 n r (b + inner φ))
Ordered entry b (at_most n r φ) = Ordered entry b φ × (entry (b + size φ) ≡ counting 7 n r (b + inner φ))
