-- Stocks: cells of an arena that are held until agents are placed in them. Contracts see a stock as a bag of cells without content. The order in
-- which they are taken is open, and so is which free cells are leased.
use Rattle.std.specs.Prelude.{◌≡◌, ◌≤◌, ◌+◌, ℕ, length, List, [], ◌∷◌}
use Rattle.std.specs.List.{AllByRecursion}
use Rattle.in_arena.specs.Arenas.{ArenaView, changed, free_of, state_at}
use Rattle.in_arena.specs.Bags.{IsBagOf, IsInBag, empty_bag}
use Rattle.in_arena.specs.States.{State, Vacant, Leased}
use Rattle.in_arena.specs.declared.content.CellClass.{CellClass}
use Rattle.in_arena.specs.declared.content.CellNo.{CellNo}
use Rattle.in_compile.specs.declared.cells.Need.{Need}
use Rattle.in_compile.specs.Cells.{count_of}

-- its cells, and the number of cells of each class for which there is room
pub record StockParts : Type 0 where
  pub bag : ArenaView
  pub room : Need

-- a stock of this arena with that room and no cell
abbrev pub empty_stock : ArenaView → Need → StockParts
empty_stock a room = record { bag = empty_bag a; room = room }

-- the number of its cells of a class
abbrev pub held : StockParts → CellClass → ℕ
held s c = free_of s.bag c

abbrev pub IsStockOf : StockParts → ArenaView → Type 0
IsStockOf s a = IsBagOf s.bag a

-- its cells and those of `need` together fit its room
abbrev pub HasRoom : StockParts → Need → Type 0
HasRoom s need = (c : CellClass) → held s c + count_of need c ≤ count_of s.room c

-- ---- changes

-- the arena, or the bag, with each of these cells in that state
abbrev pub with_all : ArenaView → List CellNo → State → ArenaView
with_all a [] x = a
with_all a (n ∷ ns) x = changed (with_all a ns x) n.0 x

-- for each class c, `count c` cells that were free are leased and in the bag, without content; nothing else changes
pub record Adds (count : CellClass → ℕ) (a b a' b' : ArenaView) : Type 0 where
  pub cells : List CellNo
  pub free : AllByRecursion (λ n. state_at a n.0 ≡ Vacant) cells
  pub arena : a' ≡ with_all a cells Leased
  pub bag : b' ≡ with_all b cells Vacant
  pub left : (c : CellClass) → free_of a' c + count c ≡ free_of a c
  pub more : (c : CellClass) → free_of b' c ≡ free_of b c + count c
  pub of : IsBagOf b' a'

-- the stock has as many cells more as `need`
abbrev pub AddsTo : Need → ArenaView → StockParts → ArenaView → StockParts → Type 0
AddsTo need a s a' s' = Adds (count_of need) a s.bag a' s'.bag × (s'.room ≡ s.room)

-- the arena regains the cells of the bag, each with the state that f makes of its content; all else is as it was
pub record Regains (f : State → State) (a b a' : ArenaView) : Type 0 where
  pub memory : a'.memory ≡ a.memory
  pub cells : a'.cells ≡ a.cells
  pub count : length a'.states ≡ length a.states
  pub back : (n : ℕ) → IsInBag b n → state_at a' n ≡ f (state_at b n)
  pub others : (n : ℕ) → state_at b n ≡ Leased → state_at a' n ≡ state_at a n
