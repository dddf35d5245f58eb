-- What the next sign of a text is. An inner contract.
use Rattle.std.specs.Prelude.{Option, Some, None, ◌≡◌, ◌↔◌, Bool, true, false, List, [], ◌∷◌, ℕ, min, ◌<◌, ◌≤◌, length, get_or}
use Rattle.numerals.specs.Numeral.{Digit}
use Rattle.grammar.specs.declared.Prefix.{Prefix}
use Rattle.grammar.specs.declared.Sign.{Sign}
use Rattle.grammar.specs.declared.lexer.Lexed.{Lexed}
use Rattle.grammar.specs.declared.lexer.Pair.{Pair}
use Rattle.grammar.specs.Text.{Form, byte, numbered, paired, form, Spaces, Numbered, Paired, Spelt, Signs}
use Rattle.grammar.specs.Measure.{over, cut}

-- the first place from i on without a space
pub record Skipped (text : List ℕ) (i j : ℕ) : Type 0 where
  pub spaces : Spaces text i j
  pub other : get_or text j 0 ≡ 32 → ⊥
  pub inside : j ≤ length text

-- no digit follows a number
abbrev pub Ends : List ℕ → ℕ → Form → Type 0
Ends text j (byte b) = Unit {0}
Ends text j (numbered b n) = Digit (get_or text j 0) → ⊥
Ends text j (paired b n r) = Digit (get_or text j 0) → ⊥

-- the relation of a pair, and a pair, with numbers over 255 read as 256
abbrev pub RelationIs : List ℕ → (i grade : ℕ) → Option Pair → Type 0
RelationIs text i grade (Some pair) =
    (pair.grade ≡ grade) × (relation : ℕ) × (pair.relation ≡ min relation 256) × Numbered text i pair.end 114 relation
    × (Digit (get_or text pair.end 0) → ⊥) × (pair.end ≤ length text)
RelationIs text i grade None = (k relation : ℕ) → Numbered text i k 114 relation → (Digit (get_or text k 0) → ⊥) → ⊥

abbrev pub PairIs : List ℕ → ℕ → Option Pair → Type 0
PairIs text i (Some pair) =
    (grade : ℕ) × (relation : ℕ) × (pair.grade ≡ min grade 256) × (pair.relation ≡ min relation 256)
    × Paired text i pair.end (get_or text i 0) grade relation
    × (Digit (get_or text pair.end 0) → ⊥) × (pair.end ≤ length text)
PairIs text i None = (k lead grade relation : ℕ) → Paired text i k lead grade relation → (Digit (get_or text k 0) → ⊥) → ⊥

-- the first byte of a counting pair, and its prefix: "at least" or "at most"
abbrev pub lead_of : Bool → ℕ
lead_of true = 62
lead_of false = 60

abbrev pub counting_of : Bool → (grade relation : ℕ) → Prefix
counting_of true grade relation = Prefix.AtLeast grade relation
counting_of false grade relation = Prefix.AtMost grade relation

-- what stands at a place that has no space
abbrev pub StandsIs : List ℕ → ℕ → Lexed → Type 0
StandsIs text i (Lexed.Found f) =
    (sign : Sign) × (f.sign ≡ cut sign) × Spelt text i f.next (form sign) × Ends text f.next (form sign) × (f.next ≤ length text)
    × (f.over ≡ over sign)
StandsIs text i Lexed.End = ⊥
StandsIs text i Lexed.Bad = (k : ℕ) (sign : Sign) → Spelt text i k (form sign) → (Digit (get_or text k 0) → ⊥) → ⊥

-- the signs of the text from place i on begin with this one, and go on from place k
abbrev pub Next : List ℕ → (i k : ℕ) → Sign → Type 0
Next text i k sign = (ss : List Sign) → Signs text i ss ↔ ((later : List Sign) × (ss ≡ sign ∷ later) × Signs text k later)

abbrev pub LexedIs : List ℕ → ℕ → Lexed → Type 0
LexedIs text i (Lexed.Found f) =
    (sign : Sign) × (f.sign ≡ cut sign) × Next text i f.next sign × (i < f.next) × (f.next ≤ length text) × (f.over ≡ over sign)
LexedIs text i Lexed.End = (ss : List Sign) → Signs text i ss ↔ (ss ≡ [])
LexedIs text i Lexed.Bad = (ss : List Sign) → Signs text i ss → ⊥
