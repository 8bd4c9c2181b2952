-- Placed members: agents with their inner wires in leased cells, before they are the arena's. An agent may get any cell of its class. That boundary
-- ends hold their numbers is this project's own choice.
use Rattle.std.specs.Prelude.{◌≡◌, ◌+◌, ℕ, List, length, map, Some, slice_get, slice_index_or}
use Rattle.std.specs.List.{AllByRecursion}
use Rattle.in_arena.specs.Arenas.{ArenaView, state_at}
use Rattle.in_arena.specs.Bags.{IsInBag}
use Rattle.in_arena.specs.Changes.{AreListedOnce}
use Rattle.in_arena.specs.Classes.{IsNumberOf}
use Rattle.in_arena.specs.States.{State, Vacant, Leased, Live, IsLive}
use Rattle.in_arena.specs.declared.content.CellClass.{CellClass}
use Rattle.in_arena.specs.declared.content.CellNo.{CellNo}
use Rattle.in_arena.specs.declared.content.End.{End}
use Rattle.in_arena.specs.declared.content.End.TheVariants.{Cell, Free}
use Rattle.in_compile.specs.declared.cells.Need.{Need}
use Rattle.in_compile.specs.declared.joints.Joint.{Joint}
use Rattle.in_compile.specs.declared.joints.Joint.TheVariants.{ToAgent, ToBoundary}
use Rattle.in_compile.specs.Cells.{count_of}
use Rattle.in_compile.specs.Members.{AgentParts, MemberParts}
use Rattle.in_compile.specs.Stocks.{StockParts, held, with_all}

-- the cell of each agent by its number, the bag of these cells, and the number of agents for which there is room
pub record PlacedParts : Type 0 where
  pub cells : List CellNo
  pub bag : ArenaView
  pub room : ℕ

abbrev pub HasNoCell : ArenaView → Type 0
HasNoCell b = (n : ℕ) → state_at b n ≡ Leased

-- the bag has these cells, each once, and no other
pub record AreCellsOf (b : ArenaView) (ns : List CellNo) : Type 0 where
  pub each : (k : ℕ) (n : CellNo) → slice_get ns k ≡ Some n → IsInBag b n.0
  pub once : AreListedOnce ns
  pub only : (n : ℕ) → IsInBag b n → (k : ℕ) × (slice_get ns k ≡ Some (record { 0 = n }))

-- .. and in each of them an agent is written
pub record AreWritten (b : ArenaView) (ns : List CellNo) : Type 0 where
  pub cells : AreCellsOf b ns
  pub live : (k : ℕ) (n : CellNo) → slice_get ns k ≡ Some n → IsLive (state_at b n.0)

-- ---- the written cells

-- the end for a joint, if the agents have these cells; a joint leads to an agent of the member
abbrev pub end_in : List CellNo → Joint → End
end_in ns (ToAgent k place) = Cell (slice_index_or ns k (record { 0 = 0 })) place
end_in ns (ToBoundary e) = Free e

abbrev pub content : List CellNo → AgentParts → State
content ns a = Live a.symbol.0 (map (end_in ns) a.ends)

-- each agent is written in a cell of its class, and nothing else is in the bag
pub record IsPlacedMember (m : MemberParts) (p : PlacedParts) : Type 0 where
  pub count : length p.cells ≡ length m.agents
  pub each : (k : ℕ) (a : AgentParts) (n : CellNo) → slice_get m.agents k ≡ Some a → slice_get p.cells k ≡ Some n
      → IsNumberOf p.bag.cells a.class n.0 × (state_at p.bag n.0 ≡ content p.cells a)
  pub written : AreWritten p.bag p.cells

-- the stock loses these cells, as many of each class as `need` has; nothing else of it changes
pub record TakesCells (need : Need) (cells : List CellNo) (old new : StockParts) : Type 0 where
  pub were : AllByRecursion (λ n. state_at old.bag n.0 ≡ Vacant) cells
  pub bag : new.bag ≡ with_all old.bag cells Leased
  pub left : (c : CellClass) → held new c + count_of need c ≡ held old c
  pub room : new.room ≡ old.room
