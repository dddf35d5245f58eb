-- `first_fault` meets its contract. The invariant: the checks made accept.
use Prim.Native.Nat.{ℕ}
use Rattle.faults.specs.Verdict.{Verdict, Finds}
use Rattle.faults.proofs.Each.{Passed}
use Rattle.faults.proofs.first_fault.Given as goal

abbrev pub invariant-loop-i : goal.invariant-loop-i
invariant-loop-i g l = (v : ℕ → Verdict) → Finds (goal.F-post g l.check) l.n v → Passed v l.n l.i
