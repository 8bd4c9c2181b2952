-- A net in cells: its agents are in live cells, and a list has the ends to which its free ends lead.
use Rattle.std.specs.Prelude.{◌≡◌, ◌<◌, ℕ, suc, true, List, [], ◌∷◌, length, map, Option, Some, None}
use Rattle.in_arena.specs.Arenas.{ArenaView, NoneLeased, free_of, state_at}
use Rattle.in_arena.specs.Changes.{HasAllCells, LeasedStay}
use Rattle.in_arena.specs.Classes.{IsNumberOf}
use Rattle.in_arena.specs.States.{State, Vacant, Leased, Live, IsLeased, places, word_of}
use Rattle.in_arena.specs.declared.content.CellClass.{CellClass}
use Rattle.in_arena.specs.declared.content.End.{End}
use Rattle.in_symbols.specs.Tables.{Tables, arity_of}
use Rattle.in_net.specs.declared.nets.Cell.{Cell}
use Rattle.in_net.specs.declared.nets.FreeEnd.{FreeEnd}
use Rattle.in_compile.specs.declared.cells.Need.{Need}
use Rattle.in_compile.specs.Cells.{is_of, need_by}
use Rattle.in_reducer.specs.Machines.{point_at}

-- the agent in a cell
abbrev pub agent_in : State → Option Cell
agent_in Vacant = None
agent_in Leased = None
agent_in (Live word ends) = Some (record { symbol = record { 0 = word }; ends = map point_at ends })

abbrev pub agents_in : ArenaView → List (Option Cell)
agents_in a = map agent_in a.states

-- free ends with these names and types, which lead to the first of these ends, one to each
abbrev pub leading_to : List FreeEnd → List End → List FreeEnd
leading_to [] es = []
leading_to (f ∷ fs) [] = []
leading_to (f ∷ fs) (e ∷ es) = record { name = f.name; kind = f.kind; end = point_at e } ∷ leading_to fs es

-- the arena with each leased cell free: its view if no cell is on lease, and the count of free cells while some are
abbrev pub rested : State → State
rested Vacant = Vacant
rested Leased = Vacant
rested (Live word ends) = Live word ends

abbrev pub at_rest : ArenaView → ArenaView
at_rest a = record { memory = a.memory; cells = a.cells; states = map rested a.states }

abbrev pub vacant_in : ArenaView → Need
vacant_in a = need_by (free_of a)

-- no cell is on lease, and each live one is of the class of its agent's symbol
pub record IsNetIn (t : Tables) (a : ArenaView) : Type 0 where
  pub all : HasAllCells a
  pub none : NoneLeased a
  pub classed : (c : CellClass) (n s : ℕ) → IsNumberOf a.cells c n → word_of (state_at a n) ≡ Some s → is_of t c s ≡ true

-- each agent has as many places as its symbol has ports
abbrev pub HaveTheirPlaces : Tables → ArenaView → Type 0
HaveTheirPlaces t a = (y s : ℕ) → word_of (state_at a y) ≡ Some s → places (state_at a y) ≡ suc (arity_of t s)

-- the same cells are on lease in both
pub record AreLeasedAlike (a b : ArenaView) : Type 0 where
  pub memory : b.memory ≡ a.memory
  pub cells : b.cells ≡ a.cells
  pub many : length b.states ≡ length a.states
  pub stay : LeasedStay a b
  pub none : (n : ℕ) → n < length a.states → IsLeased (state_at b n) → IsLeased (state_at a n)
