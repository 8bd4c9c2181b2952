-- The beginning of joining: the cells showed a net, the right member is in other cells, and the pair is retired.
use Rattle.std.specs.Prelude.{◌≡◌, ◌≢◌, ◌⊎◌, ◌+◌, ◌<◌, ◌≤◌, ℕ, suc, List, length, slice_get, take, Some}
use Rattle.in_arena.specs.Arenas.{ArenaView, state_at}
use Rattle.in_arena.specs.States.{Vacant, word_of, places, end_at}
use Rattle.in_arena.specs.declared.content.End.{End}
use Rattle.in_net.specs.Built.{IsOver}
use Rattle.in_net.specs.Interactions.{IsStep, end_agent, end_place}
use Rattle.in_net.specs.Nets.{Point, Port, Free, Net, signature_of}
use Rattle.in_symbols.specs.Tables.{Tables}
use Rattle.in_gluing.specs.EndByEnd.{IsOuterAt, IsInnerAt}
use Rattle.in_cells.specs.Between.{Interaction, before, redex_of, IsWith, IsReadyToJoin, IsDone}
use Rattle.in_cells.specs.Cells.{HasSymbols}
use Rattle.in_cells.specs.Shown.{point_of, end_of, IsShown}

-- this is the name of a new agent
abbrev pub IsNew : Interaction → ℕ → Type 0
IsNew x y = (k s : ℕ) × ((redex_of x).member.symbol k ≡ Some s) × (x.name k ≡ y)

-- the right member's agents are live cells, and their wires to one another are written. The end at a place that leads to a boundary end is open
pub record AreLaid (t : Tables) (x : Interaction) (a : ArenaView) : Type 0 where
  pub symbols : (k s : ℕ) → (redex_of x).member.symbol k ≡ Some s → word_of (state_at a (x.name k)) ≡ Some s
  pub places : (k s : ℕ) → (redex_of x).member.symbol k ≡ Some s → places (state_at a (x.name k)) ≡ suc ((signature_of t).arity s)
  pub wires : (k i l j : ℕ) → (redex_of x).member.partner (Port k i) ≡ Some (Port l j) → end_at (state_at a (x.name k)) i ≡ Some (end_of (Port (x.name l) j))

-- the outer side of each boundary end has the end that its port had; a port of the pair is the outer side of its boundary end
abbrev pub AreOuterSides : Tables → Interaction → ℕ → ArenaView → List End → Type 0
AreOuterSides t x own old ends = (e : ℕ) (w : End) (v : Point ℕ) → e < length (redex_of x).member.free →
    end_at (state_at old (end_agent (signature_of t) (redex_of x) e)) (end_place (signature_of t) (redex_of x) e) ≡ Some w →
    IsOuterAt (signature_of t) (before x) (redex_of x) (point_of w) v → slice_get ends (own + e) ≡ Some (end_of v)

-- the inner side of each boundary end has the end's partner in the right member; a boundary end there is its inner side
abbrev pub AreInnerSides : Interaction → ℕ → ℕ → List End → Type 0
AreInnerSides x own many ends = (e : ℕ) (u v : Point ℕ) → (redex_of x).member.partner (Free e) ≡ Some u →
    IsInnerAt (before x) (redex_of x) x.name u v → slice_get ends (own + many + e) ≡ Some (end_of v)

-- the cells showed the net; now the right member is beside it, the pair is retired, and all other cells are as they were
pub record AreSet (t : Tables) (x : Interaction) (own many : ℕ) (old a : ArenaView) (ends : List End) : Type 0 where
  pub given : IsWith t x own many
  pub shown : IsShown old (take own ends) (before x)
  pub one : state_at a x.one.0 ≡ Vacant
  pub two : state_at a x.two.0 ≡ Vacant
  pub others : (y : ℕ) → y ≢ x.one.0 → y ≢ x.two.0 → IsNew x y ⊎ (state_at a y ≡ state_at old y)
  pub laid : AreLaid t x a
  pub outer : AreOuterSides t x own old ends
  pub inner : AreInnerSides x own many ends
  pub room : own + many + many ≤ length ends

-- then joining can begin
abbrev pub SetIsReady : Type 0
SetIsReady = (t : Tables) (x : Interaction) (own many : ℕ) (old a : ArenaView) (ends : List End) → AreSet t x own many old a ends → IsReadyToJoin t x own many a ends

-- .. over cells that each have the number of a symbol
abbrev pub SetHasSymbols : Type 0
SetHasSymbols = (t : Tables) (x : Interaction) (own many : ℕ) (old a : ArenaView) (ends : List End) → IsOver t x.net → IsOver t x.rule.member →
    AreSet t x own many old a ends → HasSymbols t a

-- .. and when it is done, each net that the cells show is one after the interaction
abbrev pub ShownIsStep : Type 0
ShownIsStep = (t : Tables) (x : Interaction) (own : ℕ) (a : ArenaView) (ends : List End) (m : Net ℕ) → IsDone t x own a ends →
    IsShown a (take own ends) m → m.free ≡ (before x).free → IsStep (signature_of t) (before x) (redex_of x) x.name m
