-- `add_record` meets its contract: a record of kind 1 speaks of a fact, one of kind 2 of a relation, and no other speaks.
use mathlib.Core.Path.{◌≡◌}
use mathlib.Core.Bool.{true, false}
use Prim.Native.Nat.{◌≤◌, ◌<◌}
use native.Mathlib.Omega.{arith}
use Rattle.structure.specs.Record.{record_in, worlds_of}
use Rattle.structure.specs.Masks.{Gained}
use Rattle.structure.proofs.Accepted.{Within, accepted_within}
use Rattle.structure.proofs.Masks.{in_words, gained_fact, gained_link, gained_none}
use Rattle.structure.proofs.read.add_record.Goals as goal
use Rattle.structure.proofs.read.add_record.Goals.{After-record_at-r}

-- the record names worlds that are there
within : (c : goal.After-record_at-r)
    → Within c.record_at-r.result (worlds_of (record_in c.args.bytes.now))
within c =
    let s = c.before.before.before.before in
    rw c.record_at-r.ensures.0 (accepted_within s.args.bytes.now s.requires.0 s.args.i s.requires.1)

-- it has no more copies than there are levels
low : (c : goal.After-record_at-r) → c.record_at-r.result.copies < c.args.levels
low c =
    let s = c.before.before.before.before in
    rw c.record_at-r.ensures.0 (s.requires.2.all s.args.i s.requires.1)

pub raise-requires : goal.raise-requires
raise-requires c =
    let at = (goal.at.raise-requires c).After-record_at-r in
    let s = at.before.before.before.before in
    (at.record_at-r.ensures.1, omega arith, rw c.lowest.ensures (in_words s.requires.3 false at.record_at-r.ensures.3 (omega arith) s.requires.2.some))

pub raise-requires-in-Some-Link : goal.raise-requires-in-Some-Link
raise-requires-in-Some-Link c =
    let at = (goal.at.raise-requires-in-Some-Link c).After-record_at-r in
    let s = at.before.before.before.before in
    (at.record_at-r.ensures.2, omega arith, rw c.lowest-at.ensures (in_words s.requires.3 true at.record_at-r.ensures.3 ((within at).link (rw c.in-Some-Link.field-0-is at c.in-Some-Link.ensures.known)).0 (omega (arith, low at))))

pub returns-in-Some-Fact : goal.returns-in-Some-Fact
returns-in-Some-Fact c =
    let at = (goal.at.returns-in-Some-Fact c).After-record_at-r in
    let s = at.before.before.before.before in
    rw (← at.record_at-r.ensures.0)
    (gained_fact _ _ _ _ s.args.masks.now _ s.requires.2.some s.requires.3 (within at) (rw c.in-Some-Fact.field-0-is at c.in-Some-Fact.ensures.known) at.record_at-r.ensures.3
    (rw c.lowest.ensures at c.raise.ensures))

pub returns-in-Some-Link : goal.returns-in-Some-Link
returns-in-Some-Link c =
    let at = (goal.at.returns-in-Some-Link c).After-record_at-r in
    let s = at.before.before.before.before in
    rw (← at.record_at-r.ensures.0)
    (gained_link _ _ _ _ s.args.masks.now _ s.requires.3 (within at) (rw c.in-Some-Link.field-0-is at c.in-Some-Link.ensures.known) at.record_at-r.ensures.3 (low at) s.requires.2.few
    (rw c.lowest-at.ensures at c.raise-in-Some-Link.ensures))

-- a record of another kind states nothing
silent : (c : goal.After-record_at-r) → (c.record_at-r.result.kind ≡ 1 → ⊥) → (c.record_at-r.result.kind ≡ 2 → ⊥)
    → let s = c.before.before.before.before in
    let row = record_in s.args.bytes.now in
    Gained (row s.args.i) (worlds_of row) s.args.levels s.args.places.now s.args.masks.now s.args.masks.now
silent c n1 n2 = rw (← c.record_at-r.ensures.0) (gained_none c.record_at-r.result _ _ _ _ n1 n2)

pub returns-in-Some-Header : goal.returns-in-Some-Header
returns-in-Some-Header c =
    let at = (goal.at.returns-in-Some-Header c).After-record_at-r in
    let header : at.record_at-r.result.kind ≡ 0 = rw c.in-Some-Header.field-0-is at c.in-Some-Header.ensures.known in
    silent at (λ e. omega arith) (λ e. omega arith)

pub returns-in-None : goal.returns-in-None
returns-in-None c =
    let above : 3 ≤ c.record_at-r.result.kind = c.in-None.ensures.unknown in
    silent (goal.at.returns-in-None c).After-record_at-r (λ e. omega arith) (λ e. omega arith)
