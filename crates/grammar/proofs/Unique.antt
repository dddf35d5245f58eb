-- A text has at most one list of signs, and so at most one tree fits it.
use mathlib.Core.Path.{◌≡◌, sym}
use mathlib.Core.List.{List, [], ◌∷◌}
use Prim.Native.Nat.{ℕ}
use lib.ListN.{get_or}
use Rattle.numerals.specs.Numeral.{Digit}
use Rattle.grammar.specs.declared.Sign.{Sign}
use Rattle.grammar.specs.Text.{Form, byte, numbered, paired, form, Signs}
use Rattle.grammar.specs.Lexed.{Ends}
use Rattle.grammar.specs.Tree.{Tree, signs}
use Rattle.grammar.specs.Fits.{Fits}
use Rattle.grammar.proofs.Text.{no_digit_first, found, ended}
use Rattle.grammar.proofs.Reader.{one_tree}

ends_here : (text : List ℕ) (k : ℕ) (f : Form) → (Digit (get_or text k 0) → ⊥) → Ends text k f
ends_here text k (byte b) stop = tt
ends_here text k (numbered b n) stop = stop
ends_here text k (paired b n r) stop = stop

pub one_reading : (text : List ℕ) (i : ℕ) (ss ts : List Sign) → Signs text i ss → Signs text i ts → ss ≡ ts
unfolding Signs
one_reading text i [] ts p q = sym ((ended text i p ts).0 q)
one_reading text i (s ∷ ss) ts (j, k, spaces, spelt, later) q =
    let ends = ends_here text k (form s) (no_digit_first text k ss later) in
    let (later', is, q') = (found text i j k s spaces spelt ends ts).0 q in
    let same : ss ≡ later' = one_reading text k ss later' later q' in
    cc

pub one_tree_fits : (text : List ℕ) (s t : Tree) → Fits text s → Fits text t → s ≡ t
one_tree_fits text s t p q = one_tree s t p.grouped q.grouped (one_reading text 0 (signs s) (signs t) p.signs q.signs)
