-- The result of building a net.
use Rattle.std.specs.Prelude.{◌≡◌, ℕ, ◌+◌, ◌*◌, ◌<◌, ◌≤◌, true, List, length, map, Result, Ok, Err, Option, Some, None, IsPermutation}
use Rattle.std.specs.List.{AllByRecursion}
use Rattle.std.specs.List.Sorted.{IsNonDecreasingBy}
use Rattle.in_syntax.specs.Order.{IsWrittenInOrder}
use Rattle.in_syntax.specs.Refusals.{refusal_of}
use Rattle.in_syntax.specs.Sizes.{IsSized}
use Rattle.in_syntax.specs.declared.faults.Fault.{Fault}
use Rattle.in_syntax.specs.declared.places.Place.{Place}
use Rattle.in_syntax.specs.declared.tree.Source.{Source}
use Rattle.in_syntax.specs.Grammar.{max_ports}
use Rattle.in_net.specs.declared.reading.Reading.{Reading}
use Rattle.in_net.specs.declared.reading.Agent.{Agent}
use Rattle.in_net.specs.declared.reading.TextSpot.{TextSpot}
use Rattle.in_net.specs.declared.reading.TextSpot.TheVariants as spot
use Rattle.in_net.specs.declared.joining.Link.{Link}
use Rattle.in_net.specs.declared.nets.Cell.{Cell}
use Rattle.in_net.specs.declared.nets.Wire.{Wire}
use Rattle.in_net.specs.Parts.{Parts, IsWhole}
use Rattle.in_symbols.specs.Faults.{IsFaultless}
use Rattle.in_symbols.specs.Tables.{Tables, IsTabled, arity_of}
use Rattle.in_net.specs.declared.nets.FreeEnd.{FreeEnd}
use Rattle.in_net.specs.Building.{nth_spot, nth_agent, IsPointSpot, AreSmallSpots, ends_from, cells_of, wires_from}
use Rattle.in_net.specs.TextNet.{body_of, IsNetOf}
use Rattle.in_net.specs.NetFaults.{IsFirstNetFault, HasNoNetFault, HasNoClosedWire}
use Rattle.in_syntax.specs.declared.faults.Code.TheVariants.{E09}
use Rattle.in_syntax.specs.declared.faults.Fault.TheVariants.{Refused, Memory}
use Rattle.in_syntax.specs.TextLimits.{max_agents, most_bytes, most_free}

-- the tree of a text, and its tables, without a fault of names: its net can be read
pub record IsReadableNet (source : Source) (t : Tables) : Type 0 where
  pub sized : IsSized source
  pub order : IsWrittenInOrder source
  pub tabled : IsTabled source t
  pub faultless : IsFaultless source

-- n spots from `first` on are points
abbrev pub ArePointsAt : List TextSpot → ℕ → ℕ → Type 0
ArePointsAt spots first n = (j : ℕ) → j < n → (first + j < length spots) × IsPointSpot (nth_spot spots (first + j))

-- an agent's symbol is declared, and its ports are among the spots
abbrev pub AgentsOf : Tables → List TextSpot → List Agent → Type 0
AgentsOf t spots = AllByRecursion (λ a. (a.symbol.0 < length t.names) × ArePointsAt spots a.first (arity_of t a.symbol.0 + 1))

-- a port is a place of an agent that is read, at its number among the spots
pub record IsPortOf (t : Tables) (r : Reading) (k a i : ℕ) (p : Place) : Type 0 where
  pub agent : a < length r.agents
  pub place : i ≤ arity_of t (nth_agent r.agents a).symbol.0
  pub number : (nth_agent r.agents a).first + i ≡ k
  pub name : p ≡ (nth_agent r.agents a).place

-- the spot is the free or boundary end of that number
abbrev pub IsEnd : TextSpot → ℕ → Type 0
IsEnd (spot.Port a i p) j = ⊥
IsEnd (spot.Free k m) j = k ≡ j
IsEnd (spot.End k) j = k ≡ j
IsEnd (spot.Occurrence m p) j = ⊥

-- the spots of the points
pub record IsNumbered (t : Tables) (free : ℕ) (r : Reading) : Type 0 where
  pub port : (k a i : ℕ) (p : Place) → k < length r.spots → nth_spot r.spots k ≡ spot.Port a i p → IsPortOf t r k a i p
  pub end : (k j : ℕ) → k < length r.spots → IsEnd (nth_spot r.spots k) j → (j ≡ k) × (j < free)
  pub ports : (a i : ℕ) → a < length r.agents → i ≤ arity_of t (nth_agent r.agents a).symbol.0 →
      ((nth_agent r.agents a).first + i < length r.spots) × (nth_spot r.spots ((nth_agent r.agents a).first + i) ≡ spot.Port a i (nth_agent r.agents a).place)
  pub ends : (k : ℕ) → k < free → (k < length r.spots) × IsEnd (nth_spot r.spots k) k
  pub rise : (a c : ℕ) → c < a → a < length r.agents → (nth_agent r.agents c).first < (nth_agent r.agents a).first

-- each symbol has few auxiliary ports
abbrev pub HaveFewPorts : Tables → Type 0
HaveFewPorts t = (s : ℕ) → arity_of t s ≤ max_ports

-- a reading with `free` free or boundary ends: its numbers are in range, and it is not too large
pub record IsReadFrom (t : Tables) (free : ℕ) (r : Reading) : Type 0 where
  pub numbered : IsNumbered t free r
  pub agents : AgentsOf t r.spots r.agents
  pub free_points : ArePointsAt r.spots 0 free
  pub small : AreSmallSpots r.spots
  pub few_agents : length r.agents ≤ most_bytes
  pub few_spots : length r.spots ≤ most_free + (max_ports + 1) * most_bytes
  pub few_free : free ≤ most_free
  pub few_ports : HaveFewPorts t

-- the same wires, in the order of their places
pub record AreListedOf (found listed : List Wire) : Type 0 where
  pub same : IsPermutation found listed
  pub by_place : IsNonDecreasingBy (λ w. w.place.from) listed

-- the free ends have the partners of the first spots
abbrev pub AreJoinedTo : List TextSpot → List Link → List FreeEnd → Type 0
AreJoinedTo spots links free = map (λ f. f.end) free ≡ ends_from spots links 0 (length free)

-- the net has the agents and wires that were read and joined, and these free ends
pub record Assembles (t : Tables) (r : Reading) (links : List Link) (free : List FreeEnd) (n : Parts) : Type 0 where
  pub cells : n.cells ≡ cells_of t r.spots links r.agents
  pub free_ends : n.free ≡ free
  pub wires : AreListedOf (wires_from r.spots links 0 (length r.spots)) n.wires
  pub places : n.places ≡ map (λ a. a.place) r.agents
  pub built : n.built ≡ true
  pub whole : IsWhole n

abbrev pub IsCellOver : Tables → Option Cell → Type 0
IsCellOver t None = Unit {0}
IsCellOver t (Some c) = (c.symbol.0 < length t.names) × (length c.ends ≡ arity_of t c.symbol.0 + 1)

-- the net is over these tables: each agent's symbol is declared, and each agent has an end for each of its places
pub record IsOver (t : Tables) (n : Parts) : Type 0 where
  pub cells : AllByRecursion (IsCellOver t) n.cells

-- the refusal of a net or a rule with a closed wire
abbrev pub closed_at : Place → Fault
closed_at p = Refused (refusal_of E09 p)

-- Ok: there is no fault of agents and names and no closed wire, the net is over the program's tables, and it is the net of the text. A refusal
-- is for the first such fault, or, if there is none, for the first closed wire
abbrev pub Builds : Source → Tables → Result Parts Fault → Type 0
Builds source t (Ok n) = IsOver t n × IsNetOf t source.net n × HasNoNetFault (max_agents source.limits) t (body_of source.net) × HasNoClosedWire t (body_of source.net)
Builds source t (Err (Refused r)) = IsFirstNetFault (max_agents source.limits) t (body_of source.net) r.code r.place × (r.other ≡ None)
Builds source t (Err (Memory e)) = Unit {0}
