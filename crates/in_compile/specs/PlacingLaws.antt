-- Laws on stocks and placed members: no cell is lost, and a settled member is in the arena.
use Rattle.std.specs.Prelude.{◌≡◌, ◌+◌, ℕ, Some, List, slice_get}
use Rattle.in_arena.specs.Arenas.{ArenaView, free_of, state_at}
use Rattle.in_arena.specs.Bags.{IsBagOf, IsInBag, AreOfOne, empty_bag}
use Rattle.in_arena.specs.Changes.{HasAllCells}
use Rattle.in_arena.specs.States.{State, Vacant, IsLive, word_of, end_at}
use Rattle.in_arena.specs.declared.content.CellClass.{CellClass}
use Rattle.in_arena.specs.declared.content.CellNo.{CellNo}
use Rattle.in_arena.specs.declared.content.End.TheVariants.{Cell, Free}
use Rattle.in_symbols.specs.Tables.{Tables}
use Rattle.in_syntax.specs.declared.symbol_no.SymbolNo.{SymbolNo}
use Rattle.in_net.specs.Parts.{Parts}
use Rattle.in_compile.specs.declared.cells.Need.{Need}
use Rattle.in_compile.specs.declared.joints.Joint.TheVariants.{ToAgent, ToBoundary}
use Rattle.in_compile.specs.Members.{MemberParts, IsMemberOf, symbol_at, joint_at}
use Rattle.in_compile.specs.Placing.{PlacedParts, AreCellsOf, IsPlacedMember, TakesCells}
use Rattle.in_compile.specs.Putting.{IsPut}
use Rattle.in_compile.specs.Stocks.{StockParts, Adds, Regains, IsStockOf}

-- a member is determined by its net
abbrev pub MembersAreOne : Type 0
MembersAreOne = (t : Tables) (n : Parts) (p q : MemberParts) → IsMemberOf t n p → IsMemberOf t n q → p ≡ q

-- the result of putting a member is determined by the cells that its agents get
abbrev pub MemberPutsAreOne : Type 0
MemberPutsAreOne = (m : MemberParts) (ns : List CellNo) (old new other : ArenaView) → IsPut m ns old new → IsPut m ns old other → new ≡ other

-- .. and the arena that regains the cells of a bag by the arena, the bag and the states of its cells
abbrev pub RegainsAreOne : Type 0
RegainsAreOne = (f : State → State) (a b new other : ArenaView) → Regains f a b new → Regains f a b other → new ≡ other

-- ---- no cell is lost

-- after leasing, each class has as many cells that are free or held as before
abbrev pub LeasingKeepsAll : Type 0
LeasingKeepsAll = (count : CellClass → ℕ) (a b a' b' : ArenaView) (c : CellClass) → Adds count a b a' b' → free_of a' c + free_of b' c ≡ free_of a c + free_of b c

-- .. and after giving back: if nothing is written in a bag's cells, they all are free again
abbrev pub GivingBackKeepsAll : Type 0
GivingBackKeepsAll = (a b a' : ArenaView) (c : CellClass) → HasAllCells a → HasAllCells b → IsBagOf b a → ((n : ℕ) → IsLive (state_at b n) → ⊥) → Regains (λ _. Vacant) a b a' → free_of a' c ≡ free_of a c + free_of b c

-- a stock that is filled and spent leaves the arena as it was
abbrev pub AllGoBack : Type 0
AllGoBack = (count : CellClass → ℕ) (a a' b' a'' : ArenaView) → HasAllCells a → Adds count a (empty_bag a) a' b' → Regains (λ _. Vacant) a' b' a'' → a'' ≡ a

-- giving back the rest of the stock and the placed cells leaves the arena as giving back the stock would
abbrev pub PlacingLosesNone : Type 0
PlacingLosesNone = (need : Need) (s s' : StockParts) (p : PlacedParts) (a a' a'' : ArenaView) → TakesCells need p.cells s s' → AreCellsOf p.bag p.cells
    → Regains (λ _. Vacant) a s'.bag a' → Regains (λ _. Vacant) a' p.bag a'' → Regains (λ _. Vacant) a s.bag a''

-- .. and if the placed cells are settled in the end, they are live, and the rest of the arena is as it was before the stock was filled
abbrev pub SettlingLosesNone : Type 0
SettlingLosesNone = (count : CellClass → ℕ) (a a1 : ArenaView) (s : StockParts) → HasAllCells a → Adds count a (empty_bag a) a1 s.bag
    → (need : Need) (s' : StockParts) (p : PlacedParts) (a2 a3 : ArenaView) → TakesCells need p.cells s s' → AreCellsOf p.bag p.cells
    → Regains (λ _. Vacant) a1 s'.bag a2 → Regains (λ x. x) a2 p.bag a3 → Regains (λ x. x) a p.bag a3

-- no cell is in both
abbrev pub HaveNoneInCommon : ArenaView → ArenaView → Type 0
HaveNoneInCommon b d = (n : ℕ) → IsInBag b n → IsInBag d n → ⊥

-- the placed cells and the rest of a stock are of the stock's arena, and have no cell in common
abbrev pub PlacingSharesOut : Type 0
PlacingSharesOut = (need : Need) (s s' : StockParts) (p : PlacedParts) (a : ArenaView) → IsStockOf s a → TakesCells need p.cells s s' → AreCellsOf p.bag p.cells → AreOfOne s.bag p.bag
    → IsStockOf s' a × IsBagOf p.bag a × HaveNoneInCommon s'.bag p.bag

-- a bag stays one of its arena if the arena regains the cells of another bag without a common cell
abbrev pub OtherBagsStay : Type 0
OtherBagsStay = (f : State → State) (a b d a' : ArenaView) → Regains f a b a' → IsBagOf d a → HaveNoneInCommon d b → IsBagOf d a'

-- ---- a settled member

-- the cells hold the agents, with their inner wires, and at boundary ends these ends' numbers
pub record StandsInCells (m : MemberParts) (cells : List CellNo) (a : ArenaView) : Type 0 where
  pub agents : (k : ℕ) (s : SymbolNo) (n : CellNo) → symbol_at m k ≡ Some s → slice_get cells k ≡ Some n → word_of (state_at a n.0) ≡ Some s.0
  pub wires : (k i l j : ℕ) (n o : CellNo) → joint_at m (ToAgent k i) ≡ Some (ToAgent l j) → slice_get cells k ≡ Some n → slice_get cells l ≡ Some o → end_at (state_at a n.0) i ≡ Some (Cell o j)
  pub ends : (k i e : ℕ) (n : CellNo) → joint_at m (ToAgent k i) ≡ Some (ToBoundary e) → slice_get cells k ≡ Some n → end_at (state_at a n.0) i ≡ Some (Free e)

abbrev pub SettledMembersStand : Type 0
SettledMembersStand = (m : MemberParts) (p : PlacedParts) (a a' : ArenaView) → IsPlacedMember m p → Regains (λ x. x) a p.bag a' → StandsInCells m p.cells a'
