-- The search for a solution by one relation. Sets of promises are tried in falling order of their codes; one that is taken goes onto a stack of slots,
-- with a number of copies. Where no set is left to try, the newest slot gives up a copy, and the sets below it are tried anew.
use Rattle.std.specs.Prelude.{◌≡◌, ◌⊎◌, Bool, true, false, List, [], ◌∷◌, map, ℕ, zero, suc, ◌+◌, ◌*◌, ◌^◌, ◌<◌, ◌≤◌}
use Rattle.sets.specs.Word.{bit_at}
use Rattle.table.specs.declared.entry.Entry.{Entry}
use Rattle.tableau.specs.Counting.{bound, speaks, lo, hi, Row, served, spent, Usable, Solution}

-- so many successors that promise the set with this code
pub record Slot : Type 0 where
  pub code : ℕ
  pub copies : ℕ

abbrev pub taken : (b m : ℕ) → Slot
taken b m = record { code = b; copies = m }

abbrev pub as_row : Slot → Row
as_row s = record { promises = bit_at s.code; copies = s.copies }

-- the rows of a stack, whose newest slot comes first
abbrev pub rows_of : List Slot → List Row
rows_of = map as_row

-- it holds of the code of every slot
abbrev pub Each : (ℕ → Type 0) → List Slot → Type 0
Each P [] = Unit {0}
Each P (s ∷ slots) = P s.code × Each P slots

-- The measure of the search: the copies read as digits, and more than the digits of the sets below t can come to. A digit is 4096 at most.
unfoldable pub load : List Slot → ℕ
load [] = 0
load (s ∷ slots) = s.copies * 4098 ^ s.code + load slots

unfoldable pub potential : List Slot → ℕ → ℕ
potential slots t = load slots + 4098 ^ t

-- the codes below t, the greatest first
unfoldable pub codes_below : ℕ → List ℕ
codes_below zero = []
codes_below (suc b) = b ∷ codes_below b

-- the needs and limits of one relation among n entries
pub record Problem : Type 0 where
  pub entry : ℕ → Entry
  pub n : ℕ
  pub yes : ℕ → Bool
  pub no : ℕ → Bool
  pub relation : ℕ

module _ (P : Problem) where
  -- is entry i a need or a limit
  abbrev pub asking : ℕ → Bool
  asking i = speaks P.yes P.no (P.entry i) i P.relation

  -- it is a need (c true); it is a limit (c false)
  pub record Asks (c : Bool) (i : ℕ) : Type 0 where
    pub inside : i < P.n
    pub bounds : bound P.yes P.no (P.entry i) i c ≡ true
    pub here : (P.entry i).name ≡ P.relation

  pub record Met (slots : List Slot) : Type 0 where
    pub met : (i : ℕ) → Asks true i → lo (P.entry i) ≤ served i (rows_of slots)

  pub record Kept (slots : List Slot) : Type 0 where
    pub kept : (i : ℕ) → Asks false i → spent i (rows_of slots) ≤ hi (P.entry i)

  abbrev pub Solvable : Type 0
  Solvable = Solution P.entry P.yes P.no P.relation

  -- the row may stand in a solution; the set with the code b may
  abbrev pub FitRow : Row → Type 0
  FitRow = Usable P.entry P.yes P.no P.relation

  abbrev pub Fit : ℕ → Type 0
  Fit b = FitRow (as_row (taken b 0))

  -- With some number of copies of each set of a list, in its order, the slots are a solution. Only sets that may have copies have some.
  pub data Choice (may : ℕ → Type 0) : List Slot → List ℕ → Type 0 where
    done : {slots : List Slot} → Met slots → Kept slots → Choice may slots []
    some : {slots : List Slot} {b : ℕ} {rest : List ℕ} (m : ℕ) → (0 < m → may b) → Choice may (taken b m ∷ slots) rest → Choice may slots (b ∷ rest)

  -- any listed set may have copies
  abbrev pub Extension : List Slot → List ℕ → Type 0
  Extension = Choice (λ b. Unit {0})

  -- so may any fit set below t
  abbrev pub Ext : List Slot → ℕ → Type 0
  Ext slots t = Choice Fit slots (codes_below t)

  -- so are the slots up to some slot, with fewer copies of that one, and some of each set below it
  pub data Back : List Slot → Type 0 where
    fewer : {s : Slot} {before : List Slot} (m : ℕ) → m < s.copies → Ext (taken s.code m ∷ before) s.code → Back (s ∷ before)
    earlier : {s : Slot} {before : List Slot} → Back before → Back (s ∷ before)

  -- a solution is left to be found: with the sets below t, which come next, or with what comes later
  pub data Open (slots : List Slot) (t : ℕ) : Type 0 where
    next : Ext slots t → Open slots t
    later : Back slots → Open slots t

  -- a need that the slots leave unmet and the set b serves
  pub record Lacks (slots : List Slot) (b : ℕ) : Type 0 where
    pub need : ℕ
    pub asks : Asks true need
    pub promised : bit_at b need ≡ true
    pub unmet : served need (rows_of slots) < lo (P.entry need)

  -- a limit that the slots and m copies of the set b use up
  pub record Full (slots : List Slot) (b m : ℕ) : Type 0 where
    pub limit : ℕ
    pub asks : Asks false limit
    pub broken : bit_at b limit ≡ false
    pub full : spent limit (rows_of slots) + m ≡ hi (P.entry limit)

  -- m is the number of copies of the set b to try first
  pub record Useful (slots : List Slot) (b m : ℕ) : Type 0 where
    -- there is room for so many
    pub room : (i : ℕ) → Asks false i → bit_at b i ≡ false → spent i (rows_of slots) + m ≤ hi (P.entry i)
    -- there is room for no more, or no need has a use for more
    pub enough : Full slots b m ⊎ ((i : ℕ) → Asks true i → bit_at b i ≡ true → lo (P.entry i) ≤ served i (rows_of slots) + m)
    -- some need has a use for one
    pub serves : 0 < m → Lacks slots b
    pub small : m ≤ 4096

  -- each slot has copies, and serves a need that those before it leave unmet
  abbrev pub Serving : List Slot → Type 0
  Serving [] = Unit {0}
  Serving (s ∷ before) = (0 < s.copies) × Lacks before s.code × Serving before

  -- what holds of the search while the sets below t are yet to be tried
  pub record Searching (slots : List Slot) (t : ℕ) : Type 0 where
    pub fit : Each Fit slots
    pub kept : Kept slots
    pub serving : Serving slots
    pub left : Solvable → Open slots t
