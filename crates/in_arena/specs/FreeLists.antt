-- The cells of one class, and which of them are free.
use Rattle.std.specs.Prelude.{◌≡◌, ◌≢◌, ◌≤◌, ◌<◌, ◌+◌, ℕ, zero, suc, List, [], ◌∷◌, length, map, take, sum_by, get_or, Some, None}
use Rattle.std.specs.List.{AllByRecursion}
use Rattle.in_arena.specs.Classes.{class_no}
use Rattle.in_arena.specs.States.{State, Vacant, Leased, Live}
use Rattle.in_arena.specs.Words.{Content, CellWords}
use Rattle.in_arena.specs.declared.content.End.{End}
use Rattle.in_arena.specs.declared.content.CellClass.{CellClass}
use Rattle.in_arena.specs.declared.free_list.FreeList.{FreeList}
use Rattle.in_arena.specs.declared.free_list.FreeLists.{FreeLists}

-- with a given number of ends; none: the cell is free
abbrev pub with_ends : ℕ → ℕ → List End → State
with_ends zero word ends = Vacant
with_ends (suc n) word ends = Live word (take (suc n) ends)

abbrev pub one_if_zero : ℕ → ℕ
one_if_zero zero = 1
one_if_zero (suc n) = 0

abbrev pub state_in : Content → State
state_in c = with_ends c.count c.word c.ends

-- a cell that another owner has is leased, and one that was never used is free
abbrev pub state_of : CellWords → State
state_of None = Leased
state_of (Some None) = Vacant
state_of (Some (Some c)) = state_in c

abbrev pub states : List CellWords → List State
states = map state_of

abbrev pub vacancy : CellWords → ℕ
vacancy None = 0
vacancy (Some None) = 1
vacancy (Some (Some c)) = one_if_zero c.count

-- how many cells are free
abbrev pub vacancies : List CellWords → ℕ
vacancies = sum_by vacancy

-- the cell is free, and names this one as the next
abbrev pub IsVacantTo : CellWords → ℕ → Type 0
IsVacantTo None k = ⊥
IsVacantTo (Some None) k = ⊥
IsVacantTo (Some (Some c)) k = (c.count ≡ 0) × (c.word ≡ k)

abbrev pub LeadsToNext : List CellWords → ℕ → (ℕ → Type 0) → Type 0
LeadsToNext cells f P = (k : ℕ) × IsVacantTo (get_or cells f None) k × P k

-- the used cells that are free from this one on, each of which names the next one, and the last the end of the row
abbrev pub IsFreeList : List CellWords → ℕ → List ℕ → Type 0
IsFreeList cells next [] = next ≡ length cells
IsFreeList cells next (f ∷ fs) = (next ≡ f) × (f < length cells) × LeadsToNext cells f (λ k. IsFreeList cells k fs)

abbrev pub AreDifferentNumbers : List ℕ → Type 0
AreDifferentNumbers [] = Unit {0}
AreDifferentNumbers (x ∷ xs) = AllByRecursion (λ y. x ≢ y) xs × AreDifferentNumbers xs

-- the cells from this one on were never used: they are this owner's, and nothing was ever written in them
abbrev pub AreNew : List CellWords → ℕ → Type 0
AreNew cells fresh = (i : ℕ) → fresh ≤ i → i < length cells → get_or cells i None ≡ Some None

-- a content that is in a cell has at most so many ends as the cell has room for
abbrev pub IsCell : ℕ → CellWords → Type 0
IsCell most None = Unit {0}
IsCell most (Some None) = Unit {0}
IsCell most (Some (Some c)) = c.count ≤ most

-- the free cells are those of the list, and all that were never used
pub record ListsFree (most : ℕ) (cells : List CellWords) (l : FreeList) : Type 0 where
  pub few : (i : ℕ) → IsCell most (get_or cells i None)
  pub free : List ℕ
  pub listed : IsFreeList cells l.next free
  pub once : AreDifferentNumbers free
  pub unused : (l.fresh ≤ length cells) × AreNew cells l.fresh
  pub all : vacancies cells + l.fresh ≡ length free + length cells
  pub count : l.free + l.fresh ≡ length free + length cells

abbrev pub list_in : FreeLists → CellClass → FreeList
list_in l c = get_or l.lists (class_no c) (record { next = 0; fresh = 0; free = 0 })
