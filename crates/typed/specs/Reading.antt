-- What reading a text answers: document 02, P1: "11 for text outside the grammar (empty text included), then 12 for over 1,024 bytes, a
-- number over 255 or over 64 entries, then 10 for lent table bytes too few".
use Rattle.std.specs.Prelude.{Result, Ok, Err, ◌≡◌, ◌⊎◌, List, ℕ, ◌*◌, ltb, length}
use Rattle.faults.specs.declared.Fault.{Fault}
use Rattle.faults.specs.declared.Fault.TheVariants.{Space, TextGrammar, TextLimit}
use Rattle.faults.specs.Verdict.{Verdict, accepted, answer_number, refuse_if, and_then}
use Rattle.postorder.specs.Order.{size}
use Rattle.grammar.specs.Tree.{Tree, formula}
use Rattle.grammar.specs.Fits.{Fits}
use Rattle.typed.specs.Written.{over_limit, Written}

-- the number of entries; of a refusal, the number of its fault
abbrev pub number_of : Result ℕ Fault → ℕ
number_of = answer_number (λ n. n)

-- the text is outside the grammar
abbrev pub NoTree : List ℕ → Type 0
NoTree text = (t : Tree) → Fits text t → ⊥

-- of a text with this tree: 12, then 10
abbrev pub tree_verdict : List ℕ → Tree → ℕ → Verdict
tree_verdict text t lent = and_then (refuse_if (over_limit text t) TextLimit) (refuse_if (ltb lent (4 * size (formula t))) Space)

-- 11, then what the tree is refused for
abbrev pub RefusedFor : List ℕ → ℕ → Fault → Type 0
RefusedFor text lent f = ((f ≡ TextGrammar) × NoTree text) ⊎ ((t : Tree) × Fits text t × (tree_verdict text t lent ≡ Err f))

-- what a call answers, and what the lent bytes are then
abbrev pub ReadingIs : (text before after : List ℕ) → Result ℕ Fault → Type 0
ReadingIs text before after (Ok n) =
    (t : Tree) × Fits text t × (tree_verdict text t (length before) ≡ accepted) × (n ≡ size (formula t)) × Written t before after
ReadingIs text before after (Err f) = RefusedFor text (length before) f × (after ≡ before)
