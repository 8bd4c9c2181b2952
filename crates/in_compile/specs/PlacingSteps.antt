-- How a member is placed, agent by agent. No contract of a public call speaks of it. This project's own choice.
use Rattle.std.specs.Prelude.{◌≡◌, ◌<◌, ◌≤◌, ◌+◌, ℕ, List, length, map, take, count_by, Some, slice_get}
use Rattle.std.specs.List.{AllByRecursion}
use Rattle.in_arena.specs.Arenas.{ArenaView, changed, state_at}
use Rattle.in_arena.specs.Bags.{AreOfOne, BagsAreApart, IsBagOf, IsInBag}
use Rattle.in_arena.specs.Changes.{HasAllCells}
use Rattle.in_arena.specs.Classes.{IsNumberOf}
use Rattle.in_arena.specs.States.{State, Vacant, Leased, Live}
use Rattle.in_arena.specs.declared.content.CellClass.{CellClass}
use Rattle.in_arena.specs.declared.content.CellNo.{CellNo}
use Rattle.in_arena.specs.declared.content.End.{End}
use Rattle.in_compile.specs.declared.joints.Joint.{Joint}
use Rattle.in_compile.specs.declared.joints.Joint.TheVariants.{ToAgent, ToBoundary}
use Rattle.in_compile.specs.Listing.{of_class, IsOnTheWay}
use Rattle.in_compile.specs.Members.{AgentParts, MemberParts, has_class}
use Rattle.in_compile.specs.Placing.{AreCellsOf, content, end_in}
use Rattle.in_compile.specs.Stocks.{StockParts, held, with_all}

-- a cell of this class goes from the stock to the bag
pub record TakesOne (s : StockParts) (c : CellClass) (b : ArenaView) (n : CellNo) (s' : StockParts) (b' : ArenaView) : Type 0 where
  pub at : IsNumberOf s.bag.cells c n.0
  pub was : state_at s.bag n.0 ≡ Vacant
  pub stock : s' ≡ record { bag = changed s.bag n.0 Leased; room = s.room }
  pub bag : b' ≡ changed b n.0 Vacant
  pub inside : n.0 < length b.states
  pub left : (d : CellClass) → held s' d + of_class c 1 d ≡ held s d

-- the first x agents have their cells
pub record AreTakenBelow (m : MemberParts) (old : StockParts) (first : ArenaView) (x : ℕ) (s : StockParts) (ns : List CellNo) (b : ArenaView) : Type 0 where
  pub count : length ns ≡ x
  pub classes : (k : ℕ) (a : AgentParts) (n : CellNo) → slice_get m.agents k ≡ Some a → slice_get ns k ≡ Some n → IsNumberOf b.cells a.class n.0
  pub cells : AreCellsOf b ns
  pub were : AllByRecursion (λ n. state_at old.bag n.0 ≡ Vacant) ns
  pub rest : s.bag ≡ with_all old.bag ns Leased
  pub left : (c : CellClass) → held s c + count_by (has_class c) (take x m.agents) ≡ held old c
  pub room : s.room ≡ old.room
  pub apart : BagsAreApart s.bag b
  pub one : AreOfOne s.bag b
  pub same : AreOfOne first b
  pub all : HasAllCells b

-- a joint leads to a boundary end, or to one of `count` agents
abbrev pub IsInside : ℕ → Joint → Type 0
IsInside count (ToAgent k place) = k < count
IsInside count (ToBoundary e) = Unit {0}

-- an agent's cell is live, with its first x ends written
pub record IsBeingWritten (m : MemberParts) (ns : List CellNo) (k x : ℕ) (n : CellNo) (first b : ArenaView) : Type 0 where
  pub agent : AgentParts
  pub stands : slice_get m.agents k ≡ Some agent
  pub ends : List End
  pub bag : b ≡ changed first n.0 (Live agent.symbol.0 ends)
  pub count : length ends ≡ length agent.ends
  pub so_far : take x ends ≡ map (end_in ns) (take x agent.ends)

-- the first x agents are written in their cells
pub record AreWrittenBelow (m : MemberParts) (ns : List CellNo) (first : ArenaView) (x : ℕ) (b : ArenaView) : Type 0 where
  pub each : (k : ℕ) (a : AgentParts) (n : CellNo) → k < x → slice_get m.agents k ≡ Some a → slice_get ns k ≡ Some n → state_at b n.0 ≡ content ns a
  pub cells : AreCellsOf b ns
  pub same : AreOfOne first b
  pub all : HasAllCells b

-- the cells from this number on are still in the bag, each with the property P, and the bag has no other cell
pub record AreLeftFrom (P : State → Type 0) (ns : List CellNo) (x : ℕ) (b : ArenaView) : Type 0 where
  pub each : (k : ℕ) (n : CellNo) → x ≤ k → slice_get ns k ≡ Some n → P (state_at b n.0)
  pub only : (n : ℕ) → IsInBag b n → (k : ℕ) × (x ≤ k) × (slice_get ns k ≡ Some (record { 0 = n }))

-- the arena has the first cells of the bag back, each with the state that f makes of its content
pub record AreOnTheWay (f : State → State) (P : State → Type 0) (ns : List CellNo) (x : ℕ) (a b a' b' : ArenaView) : Type 0 where
  pub way : IsOnTheWay f a b a' b'
  pub of : IsBagOf b' a'
  pub all : HasAllCells a'
  pub all_bag : HasAllCells b'
  pub left : AreLeftFrom P ns x b'
