-- How a stock finds its cells: their numbers, in a list for each class. No contract of a public call speaks of it. This project's own choice.
use Rattle.std.specs.Prelude.{◌≡◌, ℕ, nat_eq, cond, List, [], ◌∷◌, ◌++◌, length, Some, slice_get, vec_capacity}
use Rattle.in_arena.specs.Arenas.{ArenaView, free_of, state_at}
use Rattle.in_arena.specs.Bags.{IsInBag}
use Rattle.in_arena.specs.Changes.{HasAllCells}
use Rattle.in_arena.specs.Classes.{IsNumberOf, class_no}
use Rattle.in_arena.specs.States.{State, Vacant, Leased, Live}
use Rattle.in_arena.specs.declared.content.CellClass.{CellClass}
use Rattle.in_arena.specs.declared.content.CellClass.TheVariants.{Small, Large, Wide}
use Rattle.in_arena.specs.declared.content.CellNo.{CellNo}
use Rattle.in_compile.specs.declared.cells.Need.{Need}
use Rattle.in_compile.specs.declared.lists.Lists.{Lists}

abbrev pub listed : Lists → CellClass → List CellNo
listed l Small = l.small.items
listed l Large = l.large.items
listed l Wide = l.wide.items

-- the number of cells of each class for which the lists have room
abbrev pub room_of : Lists → Need
room_of l = record { small = vec_capacity l.small; large = vec_capacity l.large; wide = vec_capacity l.wide }

-- the second lists are the first with this number added at the end of the list of its class
pub record HasOneMore (fewer more : Lists) (c : CellClass) (n : CellNo) : Type 0 where
  pub here : listed more c ≡ listed fewer c ++ n ∷ []
  pub others : (d : CellClass) → (d ≡ c → ⊥) → listed more d ≡ listed fewer d
  pub room : room_of more ≡ room_of fewer

-- n for class c, and 0 for any other class
abbrev pub of_class : CellClass → ℕ → CellClass → ℕ
of_class c n d = cond (nat_eq (class_no c) (class_no d)) n 0

-- the lists have the numbers of the bag's cells, each once, in the list of its class; these cells have no content
pub record IsListing (b : ArenaView) (l : CellClass → List CellNo) : Type 0 where
  pub all : HasAllCells b
  pub each : (c : CellClass) (k : ℕ) (n : CellNo) → slice_get (l c) k ≡ Some n → IsNumberOf b.cells c n.0 × (state_at b n.0 ≡ Vacant)
  pub once : (c : CellClass) (j k : ℕ) (n : CellNo) → slice_get (l c) j ≡ Some n → slice_get (l c) k ≡ Some n → j ≡ k
  pub only : (n : ℕ) → IsInBag b n → (c : CellClass) × (k : ℕ) × (slice_get (l c) k ≡ Some (record { 0 = n }))
  pub count : (c : CellClass) → length (l c) ≡ free_of b c

-- ---- cells that go back one by one

-- the state of a cell once the bag's cells are back: f of its content if it is in the bag, otherwise as in the arena
abbrev pub once_back : (State → State) → State → State → State
once_back f Leased x = x
once_back f Vacant x = f Vacant
once_back f (Live word ends) x = f (Live word ends)

-- some of the bag's cells may be back in the arena, each with the state that f makes of its content
pub record IsOnTheWay (f : State → State) (a b a' b' : ArenaView) : Type 0 where
  pub arena : (a'.memory ≡ a.memory) × (a'.cells ≡ a.cells) × (length a'.states ≡ length a.states)
  pub bag : (b'.memory ≡ b.memory) × (b'.cells ≡ b.cells)
  pub states : (n : ℕ) → once_back f (state_at b' n) (state_at a' n) ≡ once_back f (state_at b n) (state_at a n)
