-- What is known of a copy of an entry holds of the entry.
use mathlib.Core.Path.{◌≡◌, ap}
use Prim.Native.Nat.{ℕ}
use Rattle.table.specs.declared.entry.Entry.{Entry}

pub kind_read : {x e : Entry} {k : ℕ} → x ≡ e → x.kind ≡ k → e.kind ≡ k
kind_read read k = rw (← read) k

pub kind_not_read : {x e : Entry} {k : ℕ} → x ≡ e → (x.kind ≡ k → ⊥) → e.kind ≡ k → ⊥
kind_not_read read k h = k (rw read h)

pub first_read : {x e : Entry} → x ≡ e → x.first ≡ e.first
first_read = ap (λ (x : Entry). x.first)

pub second_read : {x e : Entry} → x ≡ e → x.second ≡ e.second
second_read = ap (λ (x : Entry). x.second)
