-- Cases on a kind: what holds for each of the kinds 0 to 7, and for all above, holds for every number.
use Prim.Native.Nat.{ℕ, zero, suc}

pub by_kind : (P : ℕ → Type 0) → P 0 → P 1 → P 2 → P 3 → P 4 → P 5 → P 6 → P 7 → ((k : ℕ) → P (suc (suc (suc (suc (suc (suc (suc (suc k))))))))) → (k : ℕ) → P k
by_kind P p0 p1 p2 p3 p4 p5 p6 p7 more zero = p0
by_kind P p0 p1 p2 p3 p4 p5 p6 p7 more (suc zero) = p1
by_kind P p0 p1 p2 p3 p4 p5 p6 p7 more (suc (suc zero)) = p2
by_kind P p0 p1 p2 p3 p4 p5 p6 p7 more (suc (suc (suc zero))) = p3
by_kind P p0 p1 p2 p3 p4 p5 p6 p7 more (suc (suc (suc (suc zero)))) = p4
by_kind P p0 p1 p2 p3 p4 p5 p6 p7 more (suc (suc (suc (suc (suc zero))))) = p5
by_kind P p0 p1 p2 p3 p4 p5 p6 p7 more (suc (suc (suc (suc (suc (suc zero)))))) = p6
by_kind P p0 p1 p2 p3 p4 p5 p6 p7 more (suc (suc (suc (suc (suc (suc (suc zero))))))) = p7
by_kind P p0 p1 p2 p3 p4 p5 p6 p7 more (suc (suc (suc (suc (suc (suc (suc (suc k)))))))) = more k
