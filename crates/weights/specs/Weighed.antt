-- Weights in lent words, one an entry: what a set of entries weighs, and what the slots leave, weighed.
use Rattle.std.specs.Prelude.{Bool, List, ℕ, ◌+◌, ◌*◌, ◌/◌, ◌%◌, ◌≤◌, get_or}
use Rattle.semantics.specs.Count.{gain, sum}
use Rattle.sets.specs.Set.{both, but_not}
use Rattle.sets.specs.Word.{bit_at}
use Rattle.wide.specs.Wide.{wide_in}
use Rattle.tableau.specs.Weights.{up}
use Rattle.counting.specs.Stack.{slots_of}
use Rattle.counting.specs.Bounds.{left_of}

-- the weight of entry i: the word at from + i, of which only the lower 30 bits count
abbrev pub weight_at : List ℕ → (from : ℕ) → ℕ → ℕ
weight_at words from i = get_or words (from + i) 0 % 1073741824

-- the sum of the numbers f i over the members i of a set
abbrev pub over : (ℕ → Bool) → (ℕ → ℕ) → ℕ
over p f = sum (λ i. gain (p i) (f i)) 64

-- rounded by r, the set with the code c serves no more of the needs than it costs of the limits
abbrev pub Balanced : List ℕ → (from : ℕ) → (needs limits : ℕ → Bool) → (r c : ℕ) → Type 0
Balanced words from needs limits r c =
    up (over (both needs (bit_at c)) (weight_at words from)) r ≤ over (but_not limits (bit_at c)) (weight_at words from) / r

-- what entry i lacks behind k slots as a need, the room under it as a limit, weighed
abbrev pub left_weight : (entries words : List ℕ) (k from : ℕ) (c : Bool) → ℕ → ℕ
left_weight entries words k from c i = weight_at words from i * left_of c (wide_in entries i) i (slots_of words k)
