-- An interaction in place, over cells: new agents are begun in free cells, beside the pair, and the wires of the right member are
-- written one after another, each at its two sides. Lafont 1990: the right member takes the place of the active pair on the same boundary
-- ends. That an interaction is done in this way, if no wire leads back to its pair, is this project's own choice.
use Rattle.std.specs.Prelude.{◌≡◌, ◌≢◌, ◌⊎◌, IsTrue, ◌↔◌, ◌≤◌, ◌<◌, ◌+◌, ◌-◌, ◌++◌, ℕ, suc, Bool, false, true, cond, List, [], ◌∷◌, length, map, take, slice_get, Some, None}
use Rattle.in_arena.specs.Arenas.{ArenaView, changed, free_of, state_at}
use Rattle.in_arena.specs.Changes.{AreListedOnce, HasAllCells, UnlistedStay}
use Rattle.in_arena.specs.Classes.{IsNumberOf}
use Rattle.in_arena.specs.States.{Vacant, IsBegun, IsLive, word_of, end_at, places}
use Rattle.in_arena.specs.declared.content.CellClass.{CellClass}
use Rattle.in_arena.specs.declared.content.CellNo.{CellNo}
use Rattle.in_arena.specs.declared.content.End.{End}
use Rattle.in_arena.specs.declared.content.End.TheVariants.{Cell}
use Rattle.in_symbols.specs.Tables.{Tables}
use Rattle.in_net.specs.Built.{IsOver}
use Rattle.in_net.specs.declared.nets.AgentNo.{AgentNo}
use Rattle.in_net.specs.Interactions.{IsOfPair, IsRedex, redex_at}
use Rattle.in_syntax.specs.TextLimits.{most_member_agents}
use Rattle.in_net.specs.Nets.{Point, Free, IsNet, net_of, signature_of}
use Rattle.in_net.specs.Parts.{Parts}
use Rattle.in_interaction.specs.Queues.{numbers_of}
use Rattle.in_cells.specs.Between.{Interaction, before, redex_of}
use Rattle.in_cells.specs.Cells.{KeepsCells}
use Rattle.in_cells.specs.Pairs.{IsNoPair, IsPrincipal}
use Rattle.in_cells.specs.Shown.{end_of, stands_at}
use Rattle.in_compile.specs.Cells.{count_of, IsEnough}
use Rattle.in_compile.specs.Members.{AgentParts, MemberParts}
use Rattle.in_compile.specs.OwnOrders.{in_order}
use Rattle.in_compile.specs.Putting.{AreAtPoints, HasBegunTo}
use Rattle.in_compile.specs.Templates.{TemplateParts, IsTemplateOf}
use Rattle.in_compile.specs.Wires.{both_points, over_of, over_point, within_of}
use Rattle.in_overwriting.specs.InTurn.{AreAllWiresOf, in_two_parts}
use Rattle.in_overwriting.specs.MadeByWires.{CanOverwriteAt, MakeInTurn}
use Rattle.in_overwriting.specs.Overwriting.{IsSide, IsSideAt}
use Rattle.in_typing.specs.TypedNets.{IsTypedNet}
use Rattle.in_reducer.specs.declared.sides.Pair.{Pair}
use Rattle.in_reducer.specs.Aside.{IsAside}
use Rattle.in_reducer.specs.Inside.{most_ends, most_points}
use Rattle.in_reducer.specs.Interacting.{PairSetting, IsAbout, interaction_of}

-- ---- the new agents

-- each agent has its own cell, of its class, which held no agent; it is live there with its symbol and its places, whose ends are open. All
-- other cells are as they were
pub record HasBegun (m : MemberParts) (ns : List CellNo) (old new : ArenaView) : Type 0 where
  pub count : length ns ≡ length m.agents
  pub each : (k : ℕ) (a : AgentParts) (n : CellNo) → slice_get m.agents k ≡ Some a → slice_get ns k ≡ Some n
      → IsNumberOf new.cells a.class n.0 × (word_of (state_at old n.0) ≡ None) × IsBegun a.symbol.0 (length a.ends) (state_at new n.0)
  pub once : AreListedOnce ns
  pub others : UnlistedStay ns old new
  pub memory : new.memory ≡ old.memory
  pub cells : new.cells ≡ old.cells
  pub many : length new.states ≡ length old.states

-- each class has enough free cells, and there are points for all agents, which are few
pub record CanBegin (m : MemberParts) (a : ArenaView) (points : List End) : Type 0 where
  pub all : HasAllCells a
  pub free : IsEnough (count_of m.need) (free_of a)
  pub few : length m.agents ≤ most_member_agents
  pub long : most_points ≤ length points

-- the agents have these cells, and their points come after those of 32 boundary ends: the principal ports
abbrev pub AreAtAgents : List CellNo → List End → Type 0
AreAtAgents = AreAtPoints 32

-- the first x agents have their cells, and their points
abbrev pub HasBegunBelow : MemberParts → ArenaView → ℕ → ArenaView → List End → Type 0
HasBegunBelow m old x now points = HasBegunTo m old x now 32 points

-- ---- the wires that are written

-- the end, in the net after the interaction, of a wire of the right member with this point
abbrev pub IsSideOf : Tables → Interaction → Point ℕ → Point ℕ → Type 0
IsSideOf t x = IsSideAt (signature_of t) (before x) (redex_of x) x.name

-- .. and of any wire of the right member
abbrev pub IsSideAfter : Tables → Interaction → Point ℕ → Type 0
IsSideAfter t x = IsSide (signature_of t) (before x) (redex_of x) x.name

-- the cells hold the new agents and the net's agents without the pair. Both sides of each of the first k wires lead to each other. Each other point
-- of the net before leads where it led; the pair's ports and the sides of the other wires are open
pub record AreFirstWired (t : Tables) (x : Interaction) (own : ℕ) (wires : List (Point ℕ × Point ℕ)) (k : ℕ) (a : ArenaView) (ends : List End) : Type 0 where
  pub can : CanOverwriteAt t x.net x.rule x.one x.two x.name
  pub all : AreAllWiresOf (redex_of x).member wires
  pub own_ends : own ≡ length (before x).free
  pub room : own ≤ length ends
  pub symbols : (y s : ℕ) → (word_of (state_at a y) ≡ Some s) ↔ (((y ≢ x.one.0) × (y ≢ x.two.0) × ((before x).symbol y ≡ Some s)) ⊎ ((l : ℕ) × (x.name l ≡ y) × ((redex_of x).member.symbol l ≡ Some s)))
  pub places : (y s : ℕ) → word_of (state_at a y) ≡ Some s → places (state_at a y) ≡ suc ((signature_of t).arity s)
  pub written : (j : ℕ) (p q u v : Point ℕ) → j < k → slice_get wires j ≡ Some (p, q) → IsSideOf t x p u → IsSideOf t x q v → (stands_at a ends u ≡ Some (end_of v)) × (stands_at a ends v ≡ Some (end_of u))
  pub still : (u v : Point ℕ) → (before x).partner u ≡ Some v → (IsOfPair (redex_of x) u → ⊥) → (IsSideAfter t x u → ⊥) → stands_at a ends u ≡ Some (end_of v)

-- ---- the pairs that they make

-- the pairs that the first k of these wires make were added, one after another; a wire is named by its lowest boundary end
abbrev pub HasQueued : Tables → Interaction → List (ℕ × Point ℕ) → ℕ → List (ℕ × ℕ) → List (ℕ × ℕ) → Type 0
HasQueued t x over k old new = (qs : List (AgentNo × AgentNo)) × MakeInTurn t x.net x.rule x.one x.two x.name (take k over) qs × (new ≡ old ++ map numbers_of qs)

-- ---- reading the sides

-- the wires of a member, by their points, those with boundary ends first
abbrev pub wires_of : MemberParts → List (Point ℕ × Point ℕ)
wires_of m = in_two_parts (map over_point (over_of m)) (map both_points (within_of m))

-- for place 0 the end itself; otherwise that place of the cell whose principal port the end is
abbrev pub IsAtPlace : End → ℕ → End → Type 0
IsAtPlace x place y = ((place ≡ 0) × (y ≡ x)) ⊎ ((c : CellNo) × (x ≡ Cell c 0) × (y ≡ Cell c place))

-- both agents are live, and their auxiliary ports are these boundary ends, those of the first one first; there are points for the ends
pub record CanRead (a : ArenaView) (p : Pair) (many : ℕ) (points : List End) : Type 0 where
  pub one : IsLive (state_at a p.one.0)
  pub other : IsLive (state_at a p.other.0)
  pub order : p.first_ends ≤ many
  pub first : p.first_ends < places (state_at a p.one.0)
  pub second : many < p.first_ends + places (state_at a p.other.0)
  pub few : many ≤ most_ends
  pub long : most_points ≤ length points

-- the agent is live, has as many auxiliary ports as there are points from `first` to before `to`, and these are points of boundary ends
pub record HasPortsFor (a : ArenaView) (c : CellNo) (first to points : ℕ) : Type 0 where
  pub live : IsLive (state_at a c.0)
  pub ports : to < first + places (state_at a c.0)
  pub near : first + 2 ≤ most_ends
  pub few : to ≤ most_ends
  pub room : most_ends ≤ points

-- the points from `first` to before `to` have the partners of the agent's auxiliary ports, in their order, of as many as it has. The points before
-- these, and those of agents, are as they were
pub record HasPortsIn (a : ArenaView) (c : CellNo) (first to : ℕ) (old new : List End) : Type 0 where
  pub read : (e : ℕ) → first ≤ e → e < to → suc (e - first) < places (state_at a c.0) → slice_get new e ≡ end_at (state_at a c.0) (suc (e - first))
  pub others : (k : ℕ) → (k < first) ⊎ (most_ends ≤ k) → slice_get new k ≡ slice_get old k
  pub long : length new ≡ length old

-- the pair of two principal ports is added; the second one's agent is first if the first one is an input. Nothing is added if one of them is no
-- principal port
abbrev pub AddsInOrder : Bool → End → End → List (ℕ × ℕ) → List (ℕ × ℕ) → Type 0
AddsInOrder input x y old new =
    (IsNoPair x y × (new ≡ old)) ⊎ ((c : ℕ) × (d : ℕ) × IsPrincipal c x × IsPrincipal d y × (new ≡ old ++ cond input (d, c) (c, d) ∷ []))

-- the points of the boundary ends have their sides
pub record AreSidesIn (t : Tables) (x : Interaction) (ns : List CellNo) (points : List End) : Type 0 where
  pub ends : (e : ℕ) (u : Point ℕ) → e < length (redex_of x).member.free → IsSideOf t x (Free e) u → slice_get points e ≡ Some (end_of u)
  pub agents : AreAtAgents ns points

-- in an interaction of this template, whose agents have these cells, the first k wires are written
pub record IsWiring (t : Tables) (s : PairSetting) (p : TemplateParts) (own : ℕ) (ns : List CellNo) (points : List End) (k : ℕ) (a : ArenaView) (ends : List End) : Type 0 where
  pub member_over : IsOver t s.rule.member
  pub template : IsTemplateOf t s.rule p
  pub typed : IsTypedNet (signature_of t) (net_of s.net)
  pub typed_inside : IsTypedNet (signature_of t) (net_of s.rule.member)
  pub many : length ns ≡ length p.member.agents
  pub sides : AreSidesIn t (interaction_of s ns) ns points
  pub from : AreFirstWired t (interaction_of s ns) own (wires_of p.member) k a ends

-- the member's own pairs are of agents that have these cells
abbrev pub AreOwnPairs : List CellNo → MemberParts → Type 0
AreOwnPairs ns m = (k : ℕ) (q : ℕ × ℕ) → slice_get m.pairs k ≡ Some q → (q.0 < length ns) × (q.1 < length ns)

-- the cells show a net with this pair, which is of this template; neither of its symbols is marked; and the agents can be begun
pub record CanWireUp (t : Tables) (p : TemplateParts) (pair : Pair) (a : ArenaView) (ends points : List End) : Type 0 where
  pub about : (s : PairSetting) × (own : ℕ) × IsAbout t s p pair own a ends
  pub unmarked : IsTrue p.unmarked
  pub begin : CanBegin p.member a points
  pub few : length p.member.joints ≤ most_ends

-- the pair's cells are free
abbrev pub retired : Pair → ArenaView → ArenaView
retired p a = changed (changed a p.one.0 Vacant) p.other.0 Vacant

-- both agents of the pair are live
abbrev pub AreLive : Pair → ArenaView → Type 0
AreLive p a = IsLive (state_at a p.one.0) × IsLive (state_at (changed a p.one.0 Vacant) p.other.0)

-- they are cells of these classes
abbrev pub AreOfClasses : CellClass × CellClass → Pair → ArenaView → Type 0
AreOfClasses classes p a = IsNumberOf a.cells classes.0 p.one.0 × IsNumberOf a.cells classes.1 p.other.0

-- the same with its agents exchanged
abbrev pub turned : Pair → Pair
turned p = record { one = p.other; other = p.one; first_ends = p.first_ends }

-- .. as they are, or exchanged
abbrev pub pair_in_order : Bool → Pair → Pair
pair_in_order false p = p
pair_in_order true p = turned p

-- these are the pair and the classes of its cells in this order
abbrev pub AreOwnCells : Bool → Pair → CellClass × CellClass → Pair → CellClass × CellClass → Type 0
AreOwnCells order p classes q own = (q ≡ pair_in_order order p) × (own ≡ in_order order classes)

-- the agents were begun beside the pair, the pair was retired, and all wires are written, for any net
pub record IsWiredUp (t : Tables) (p : TemplateParts) (pair : Pair) (old : ArenaView) (old_ends : List End) (old_queue : List (ℕ × ℕ)) (new : ArenaView) (new_ends points : List End) (new_queue : List (ℕ × ℕ)) : Type 0 where
  pub cells : List CellNo
  pub middle : ArenaView
  pub begun : HasBegun p.member cells old middle
  pub live : AreLive pair middle
  pub kept : KeepsCells (retired pair middle) new
  pub at : AreAtAgents cells points
  pub written : (s : PairSetting) (own : ℕ) → IsAbout t s p pair own old old_ends → IsWiring t s p own cells points (length (wires_of p.member)) new new_ends
  pub queued : (s : PairSetting) (own : ℕ) → IsAbout t s p pair own old old_ends → HasQueued t (interaction_of s cells) (map over_point (over_of p.member)) (length (over_of p.member)) old_queue new_queue

-- ---- .. in the cells of the pair

-- a net with the same agents and wires, in which the pair has numbers that no cell has
pub record IsSetAside (t : Tables) (s : PairSetting) (a : ArenaView) (n : Parts) (f : ℕ → ℕ) : Type 0 where
  pub aside : IsAside (net_of s.net) (net_of n) (redex_at s.rule s.one.0 s.two.0) f
  pub net : IsNet (signature_of t) (net_of n)
  pub typed : IsTypedNet (signature_of t) (net_of n)
  pub redex : IsRedex (signature_of t) (net_of n) (redex_at s.rule (f s.one.0) (f s.two.0))
  pub one : length a.states ≤ f s.one.0
  pub two : length a.states ≤ f s.two.0

-- the same interaction, of the net with the pair aside
abbrev pub aside_of : PairSetting → Parts → (ℕ → ℕ) → PairSetting
aside_of s n f = record { net = n; rule = s.rule; one = record { 0 = f s.one.0 }; two = record { 0 = f s.two.0 } }

-- the cells show a net with this pair, which is of this template and of its classes; neither of its symbols is marked; the pair can be set aside; and
-- the agents can be begun
pub record CanWireAnew (t : Tables) (p : TemplateParts) (pair : Pair) (a : ArenaView) (ends points : List End) : Type 0 where
  pub setting : PairSetting
  pub own : ℕ
  pub about : IsAbout t setting p pair own a ends
  pub aside : (n : Parts) × (f : ℕ → ℕ) × IsSetAside t setting a n f
  pub classed : AreOfClasses p.classes pair a
  pub unmarked : IsTrue p.unmarked
  pub begin : CanBegin p.member a points
  pub few : length p.member.joints ≤ most_ends

-- the pair was retired, then the agents were begun, and all wires are written, for any net and any numbers of the pair aside
pub record IsWiredAnew (t : Tables) (p : TemplateParts) (pair : Pair) (old : ArenaView) (old_ends : List End) (old_queue : List (ℕ × ℕ)) (new : ArenaView) (new_ends points : List End) (new_queue : List (ℕ × ℕ)) : Type 0 where
  pub cells : List CellNo
  pub middle : ArenaView
  pub live : AreLive pair old
  pub begun : HasBegun p.member cells (retired pair old) middle
  pub kept : KeepsCells middle new
  pub at : AreAtAgents cells points
  pub written : (s : PairSetting) (own : ℕ) (n : Parts) (f : ℕ → ℕ) → IsAbout t s p pair own old old_ends → IsSetAside t s old n f → IsWiring t (aside_of s n f) p own cells points (length (wires_of p.member)) new new_ends
  pub queued : (s : PairSetting) (own : ℕ) (n : Parts) (f : ℕ → ℕ) → IsAbout t s p pair own old old_ends → IsSetAside t s old n f
      → HasQueued t (interaction_of (aside_of s n f) cells) (map over_point (over_of p.member)) (length (over_of p.member)) old_queue new_queue
