-- An arena's counts and its leases after a change of a cell.
use Rattle.std.specs.Prelude.{◌≡◌, ◌≢◌, ◌+◌, ℕ, cond, List, length, Some, slice_get}
use Rattle.in_arena.specs.Arenas.{ArenaView, LeaseView, IsOf, Leases, changed, free_of, state_at}
use Rattle.in_arena.specs.Bags.{BagsAreApart, IsBagOf, LeasesTo, empty_bag}
use Rattle.in_arena.specs.Classes.{IsNumberOf, all_of}
use Rattle.in_arena.specs.States.{State, Vacant, Leased, IsLeased, is_vacant}
use Rattle.in_arena.specs.declared.content.CellClass.{CellClass}
use Rattle.in_arena.specs.declared.content.CellNo.{CellNo}

-- it has all its cells
abbrev pub HasAllCells : ArenaView → Type 0
HasAllCells a = length a.states ≡ all_of a.cells

abbrev pub one_if_free : State → ℕ
one_if_free x = cond (is_vacant x) 1 0

-- the list names each cell once
abbrev pub AreListedOnce : List CellNo → Type 0
AreListedOnce ns = (j k : ℕ) (n : CellNo) → slice_get ns j ≡ Some n → slice_get ns k ≡ Some n → j ≡ k

-- each cell that isn't in the list is as it was
abbrev pub UnlistedStay : List CellNo → ArenaView → ArenaView → Type 0
UnlistedStay ns old new = (n : ℕ) → ((k : ℕ) → slice_get ns k ≡ Some (record { 0 = n }) → ⊥) → state_at new n ≡ state_at old n

-- each cell but this one is as it was
abbrev pub AllButOneStay : ℕ → ArenaView → ArenaView → Type 0
AllButOneStay n old new = (m : ℕ) → m ≢ n → state_at new m ≡ state_at old m

-- each cell that was on lease still is
abbrev pub LeasedStay : ArenaView → ArenaView → Type 0
LeasedStay old new = (n : ℕ) → IsLeased (state_at old n) → IsLeased (state_at new n)

-- the number of free cells of each class is as before
abbrev pub AsManyAreFree : ArenaView → ArenaView → Type 0
AsManyAreFree old new = (c : CellClass) → free_of new c ≡ free_of old c

-- this class has one free cell less, and each other class as many as before
abbrev pub OneFewerIsFree : CellClass → ArenaView → ArenaView → Type 0
OneFewerIsFree c old new = (free_of new c + 1 ≡ free_of old c) × ((d : CellClass) → (d ≡ c → ⊥) → free_of new d ≡ free_of old d)

-- the class of this cell has one free cell more if the cell becomes free, and one less if it was free; each other class has as many as before
abbrev pub FreeCountsChange : Type 0
FreeCountsChange = (a : ArenaView) (n : ℕ) (c : CellClass) (x : State) → HasAllCells a → IsNumberOf a.cells c n
    → (free_of (changed a n x) c + one_if_free (state_at a n) ≡ free_of a c + one_if_free x) × ((d : CellClass) → (d ≡ c → ⊥) → free_of (changed a n x) d ≡ free_of a d)

-- if a cell is leased, its class has one free cell less, and each other class as many as before
abbrev pub LeaseTakesOne : Type 0
LeaseTakesOne = (a b : ArenaView) (c : CellClass) (l : LeaseView) → HasAllCells a → Leases a c (Some l) b → OneFewerIsFree c a b

abbrev pub AllCellsStay : Type 0
AllCellsStay = (a : ArenaView) (n : ℕ) (x : State) → HasAllCells a → HasAllCells (changed a n x)

-- a lease stays one of its arena if another cell changes
abbrev pub LeasesStay : Type 0
LeasesStay = (a : ArenaView) (l : LeaseView) (n : ℕ) (x : State) → IsOf l a → (l.number ≡ n → ⊥) → IsOf l (changed a n x)

-- .. and if one more cell is leased, which is another one
abbrev pub LeasesDiffer : Type 0
LeasesDiffer = (a b : ArenaView) (c : CellClass) (l m : LeaseView) → IsOf l a → Leases a c (Some m) b → (l.number ≡ m.number → ⊥) × IsOf l b

-- ---- bags

-- a bag without a cell is of its arena, and none of its cells is free
abbrev pub EmptyBagIsOf : Type 0
EmptyBagIsOf = (a : ArenaView) → IsBagOf (empty_bag a) a × HasAllCells (empty_bag a) × ((c : CellClass) → free_of (empty_bag a) c ≡ 0)

-- a bag stays one of its arena if a cell changes that it doesn't have
abbrev pub BagsStay : Type 0
BagsStay = (a b : ArenaView) (n : ℕ) (x : State) → IsBagOf b a → state_at b n ≡ Leased → IsBagOf b (changed a n x)

-- a free cell of an arena is in none of its bags
abbrev pub FreeCellsAreInNoBag : Type 0
FreeCellsAreInNoBag = (a b : ArenaView) (n : ℕ) → IsBagOf b a → state_at a n ≡ Vacant → state_at b n ≡ Leased

-- if a cell is leased into a bag, its class has one free cell less, and the bag one more cell without content
abbrev pub LeaseToTakesOne : Type 0
LeaseToTakesOne = (a b a' b' : ArenaView) (c : CellClass) (n : CellNo) → HasAllCells a → HasAllCells b → IsBagOf b a → LeasesTo a c b (Some n) a' b'
    → (free_of a' c + 1 ≡ free_of a c) × (free_of b' c ≡ free_of b c + 1) × ((d : CellClass) → (d ≡ c → ⊥) → (free_of a' d ≡ free_of a d) × (free_of b' d ≡ free_of b d))

-- if a cell is leased into one of two bags that are apart, they stay apart, and the other one stays a bag of the arena
abbrev pub BagsStayApart : Type 0
BagsStayApart = (a b d a' b' : ArenaView) (c : CellClass) (n : CellNo) → IsBagOf d a → BagsAreApart b d → LeasesTo a c b (Some n) a' b' → BagsAreApart b' d × IsBagOf d a'

-- .. and if a cell is moved from one to the other
abbrev pub MovingKeepsApart : Type 0
MovingKeepsApart = (b d : ArenaView) (n : ℕ) (x : State) → BagsAreApart b d → BagsAreApart (changed b n Leased) (changed d n x)

-- a lease stays a lease of the arena if a cell is leased into a bag, which is then another cell
abbrev pub LeaseIsInNoBag : Type 0
LeaseIsInNoBag = (a b a' b' : ArenaView) (c : CellClass) (l : LeaseView) (n : CellNo) → IsOf l a → LeasesTo a c b (Some n) a' b' → (l.number ≡ n.0 → ⊥) × IsOf l a'
