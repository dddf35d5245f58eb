-- What is read into a room, part after part.
use Rattle.std.proofs.Common.{◌≡◌, ℕ, ◌+◌, ◌≤◌, List, ◌++◌, None, Some, length, take, sym, ap, ◌∙◌, subst, append_assoc}
use Rattle.std.proofs.lemmas.List.{length-take-le, take-append-le}
use Rattle.std.proofs.Math.Seq.{take-append-add}
use Rattle.std.specs.declared.option.Option.{Option}
use Rattle.std.specs.Io.KnownBytes.{Consumes}

consumes_both : (a b c : Option (List ℕ)) (xs ys : List ℕ) → Consumes a b xs → Consumes b c ys → Consumes a c (xs ++ ys)
consumes_both None b c xs ys first second = tt
consumes_both (Some x) None c xs ys first second = absurd first
consumes_both (Some x) (Some y) None xs ys first second = absurd second
consumes_both (Some x) (Some y) (Some z) xs ys first second = first ∙ ap (λ l. xs ++ l) second ∙ sym (append_assoc xs ys z)

-- the first n bytes stay, and the m that are read stand behind them
front_grows : (room part rest : List ℕ) (n m : ℕ) → n ≤ length room → m ≤ length part
    → take (n + m) (take n room ++ (part ++ rest)) ≡ take n room ++ take m part
front_grows room part rest n m within fits =
    ap (λ k. take (k + m) (take n room ++ (part ++ rest))) (sym (length-take-le n room within))
    ∙ take-append-add (take n room) (part ++ rest) m
    ∙ ap (λ l. take n room ++ l) (take-append-le m part rest fits)

-- what the room holds in front was taken from the input, in order
pub in_order_more : (a b c : Option (List ℕ)) (room part rest : List ℕ) (n m : ℕ) → n ≤ length room → m ≤ length part
    → Consumes a b (take n room) → Consumes b c (take m part) → Consumes a c (take (n + m) (take n room ++ (part ++ rest)))
in_order_more a b c room part rest n m within fits before more =
    subst (Consumes a c) (sym (front_grows room part rest n m within fits)) (consumes_both a b c _ _ before more)
