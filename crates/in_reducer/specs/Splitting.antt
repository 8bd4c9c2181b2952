-- How a part is split off, step by step. No contract of a public call speaks of it. This project's own choice.
use Rattle.std.specs.Prelude.{◌≡◌, ◌+◌, ◌<◌, ℕ, Bool, true, false, List, ◌++◌, length, option_map, slice_get}
use Rattle.in_arena.specs.Arenas.{ArenaView, state_at}
use Rattle.in_arena.specs.States.{State, Vacant, Leased, Live}
use Rattle.in_arena.specs.declared.content.CellNo.{CellNo}
use Rattle.in_cells.specs.Copying.{number_in}
use Rattle.in_cells.specs.Laws.{AreTakenOut}
use Rattle.in_cells.specs.TakingOut.{FreesCellsOf}
use Rattle.in_reducer.specs.declared.splitting.SplitLists.{SplitLists}
use Rattle.in_reducer.specs.declared.splitting.EndLists.{EndLists}
use Rattle.in_reducer.specs.Inside.{most_ends}
use Rattle.in_reducer.specs.Parting.{place_of_two}
use Rattle.in_reducer.specs.Reserved.{IsReserved}

-- ---- lists

-- `many` elements, each the image under this map of the element at its place in the other list
pub record ArePicked {X Y : Type 0} (f : X → Y) (place : ℕ → ℕ) (many : ℕ) (all : List X) (picked : List Y) : Type 0 where
  pub count : length picked ≡ many
  pub each : (e : ℕ) → e < many → slice_get picked e ≡ option_map f (slice_get all (place e))

-- .. followed by room for the sides of boundary ends
pub record ArePickedWithRoom {X Y : Type 0} (f : X → Y) (place : ℕ → ℕ) (many : ℕ) (all : List X) (list : List Y) : Type 0 where
  pub picked : List Y
  pub room : List Y
  pub are : ArePicked f place many all picked
  pub sides : length room ≡ most_ends + most_ends
  pub list_is : list ≡ picked ++ room

-- the number of a free end of the whole in the rest (part 0) or the part (part 1), which has `many` of them
pub record AreNumbersOfTwo (own cuts i many : ℕ) (numbers : List ℕ) : Type 0 where
  pub count : length numbers ≡ own + (cuts + cuts)
  pub each : (e : ℕ) → e < many → number_in numbers (place_of_two own i e) ≡ e

-- the lists are empty, and have room for `many` free ends
abbrev pub HasRoomForEnds : ℕ → EndLists → Type 0
HasRoomForEnds many l = IsReserved many l.free × IsReserved (many + most_ends + most_ends) l.ends

-- .. and have the numbers of the free ends, of the rest and of the part
pub record AreListsFor (own cuts : ℕ) (l : SplitLists) : Type 0 where
  pub rest_numbers : AreNumbersOfTwo own cuts 0 (own + cuts) l.rest.numbers.items
  pub part_numbers : AreNumbersOfTwo own cuts 1 cuts l.part.numbers.items
  pub rest : HasRoomForEnds (own + cuts) l.rest
  pub part : HasRoomForEnds cuts l.part

-- ---- cells

-- the agents are taken out, their cells are free, and the free ends have these numbers
pub record LosesPart (agents : List CellNo) (own : ℕ → ℕ) (old new : ArenaView) : Type 0 where
  pub out : AreTakenOut agents own old new
  pub free : FreesCellsOf old agents new
  pub memory : new.memory ≡ old.memory
  pub cells : new.cells ≡ old.cells
  pub many : length new.states ≡ length old.states

-- ---- pairs

-- the first agent of the pair is in the arena, or is gone
abbrev pub is_there : State → Bool
is_there Vacant = false
is_there Leased = false
is_there (Live word ends) = true

abbrev pub is_gone : State → Bool
is_gone Vacant = true
is_gone Leased = true
is_gone (Live word ends) = false

abbrev pub stays : ArenaView → ℕ × ℕ → Bool
stays a q = is_there (state_at a q.0)

abbrev pub goes : ArenaView → ℕ × ℕ → Bool
goes a q = is_gone (state_at a q.0)
