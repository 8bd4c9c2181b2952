-- The net that a text has. Lafont 1990 writes a net as equations between terms: a term is a point, an agent's term its
-- principal port, and two occurrences of one variable are one wire. The place of a wire in the text is this project's own choice.
use Rattle.std.specs.Prelude.{◌≡◌, ◌≢◌, ◌⊎◌, ℕ, suc, ◌+◌, ◌≤◌, true, List, [], ◌∷◌, ◌++◌, length, map, Option, Some, None, IsSome, slice_get, slice_index_or, ◌<◌}
use Rattle.std.specs.List.{AllByRecursion, flat_map}
use Rattle.in_base.specs.Lists.{IsAmong}
use Rattle.in_syntax.specs.Order.{Rises}
use Rattle.in_syntax.specs.declared.places.Place.{Place}
use Rattle.in_syntax.specs.declared.tree.Term.{Term, out-Term}
use Rattle.in_syntax.specs.declared.tree.Term.TheFolds.{fold-Term}
use Rattle.in_syntax.specs.declared.tree.Equation.{Equation}
use Rattle.in_syntax.specs.declared.tree.Head.{Head}
use Rattle.in_syntax.specs.declared.tree.SourceFree.{SourceFree}
use Rattle.in_syntax.specs.declared.tree.SourceNet.{SourceNet}
use Rattle.in_syntax.specs.declared.tree.SourceRule.{SourceRule}
use Rattle.in_net.specs.declared.nets.Point.{Point}
use Rattle.in_net.specs.declared.nets.Point.TheVariants.{Port, Free}
use Rattle.in_net.specs.declared.nets.Cell.{Cell}
use Rattle.in_symbols.specs.Names.{number_in}
use Rattle.in_symbols.specs.Tables.{Tables, arity_of, port_of}
use Rattle.in_net.specs.Parts.{Parts, IsWhole, partner_in, wire_in, wire_place_in}
use Rattle.in_net.specs.declared.nets.FreeEnd.{FreeEnd}

-- the first term is in the second: it is that term, or is in an argument of it
pub data IsPartOf : Term → Term → Type 0 where
  itself : (u : Term) → IsPartOf u u
  deeper : (u v t : Term) → IsAmong v (out-Term t).args → IsPartOf u v → IsPartOf u t

-- a head of a rule, and the number of its first boundary end: each of its symbol's auxiliary places has one, from left to
-- right
pub record LeftHead : Type 0 where
  pub first : ℕ
  pub head : Head

-- a text's parts that join spots: the free names and the equations of a net, or the heads and the equations of a rule
pub record Body : Type 0 where
  pub free : List SourceFree
  pub heads : List LeftHead
  pub equations : List Equation

-- the heads of a rule as written, whose first boundary ends have these numbers
abbrev pub heads_at : SourceRule → ℕ → ℕ → List LeftHead
heads_at r first second = record { first = first; head = r.first } ∷ record { first = second; head = r.second } ∷ []

-- the initial net has no heads
abbrev pub body_of : SourceNet → Body
body_of n = record { free = n.free; heads = []; equations = n.equations }

-- a term of the body
pub data IsTermOf (b : Body) (u : Term) : Type 0 where
  in_left : (e : Equation) → IsAmong e b.equations → IsPartOf u e.left → IsTermOf b u
  in_right : (e : Equation) → IsAmong e b.equations → IsPartOf u e.right → IsTermOf b u
  in_head : (h : LeftHead) (v : Term) → IsAmong h b.heads → IsAmong v h.head.terms → IsPartOf u v → IsTermOf b u

abbrev pub name_of : Term → List ℕ
name_of u = (out-Term u).name.text

abbrev pub place_of : Term → Place
place_of u = (out-Term u).name.place

-- an agent: its name is that symbol's, wherever it is declared
abbrev pub IsAgentOfTerm : Tables → Term → ℕ → Type 0
IsAgentOfTerm t u s = number_in (name_of u) t.names ≡ Some s

-- a variable or a free name: its name is no symbol's
abbrev pub IsVariable : Tables → Term → Type 0
IsVariable t u = number_in (name_of u) t.names ≡ None

-- a spot of a text: a port of the agent whose name is at a place, a free or boundary end by its number, the occurrence
-- of a variable or free name at a place
pub data TextSpot : Type 0 where
  port_at : Place → ℕ → TextSpot
  free_end : ℕ → TextSpot
  occurrence : Place → TextSpot

abbrev pub spot_by : Option ℕ → Place → TextSpot
spot_by None place = occurrence place
spot_by (Some s) place = port_at place 0

-- the spot of a term: an agent's principal port, or the occurrence
abbrev pub spot_of : Tables → Term → TextSpot
spot_of t u = spot_by (number_in (name_of u) t.names) (place_of u)

-- the joints that are at a place: of the two terms of an equation at its ~, of an agent's place and the argument there and of a
-- boundary end and the term there at that term's first token
pub data PlacedJoint (t : Tables) (b : Body) : TextSpot → TextSpot → Place → Type 0 where
  of_equation : (e : Equation) → IsAmong e b.equations → PlacedJoint t b (spot_of t e.left) (spot_of t e.right) e.tilde
  of_argument : (u v : Term) (i : ℕ) → IsTermOf b u → IsSome (number_in (name_of u) t.names) → slice_get (out-Term u).args i ≡ Some v →
      PlacedJoint t b (port_at (place_of u) (suc i)) (spot_of t v) (place_of v)
  of_head : (h : LeftHead) (v : Term) (i : ℕ) → IsAmong h b.heads → slice_get h.head.terms i ≡ Some v → PlacedJoint t b (free_end (h.first + i)) (spot_of t v) (place_of v)
  turned : (x y : TextSpot) (p : Place) → PlacedJoint t b x y p → PlacedJoint t b y x p

-- the joints of names: of the two occurrences of a variable, of a free end and the occurrence of its name
pub data NameJoint (t : Tables) (b : Body) : TextSpot → TextSpot → Type 0 where
  of_variable : (u v : Term) → IsTermOf b u → IsTermOf b v → IsVariable t u → name_of u ≡ name_of v → place_of u ≢ place_of v →
      NameJoint t b (occurrence (place_of u)) (occurrence (place_of v))
  of_free : (k : ℕ) (f : SourceFree) (u : Term) → slice_get b.free k ≡ Some f → IsTermOf b u → IsVariable t u → name_of u ≡ f.name.text →
      NameJoint t b (free_end k) (occurrence (place_of u))
  turned_name : (x y : TextSpot) → NameJoint t b x y → NameJoint t b y x

pub data Kind : Type 0 where
  placed : Kind
  of_name : Kind

abbrev pub IsOccurrence : TextSpot → Type 0
IsOccurrence (port_at p i) = ⊥
IsOccurrence (free_end k) = ⊥
IsOccurrence (occurrence p) = Unit {0}

-- a chain of joints, of either kind in turn, that continues only through occurrences: the kind of its first joint, that of its
-- last one, its two ends, and the places of its placed joints
pub data Chain (t : Tables) (b : Body) : Kind → Kind → TextSpot → TextSpot → List Place → Type 0 where
  one_placed : (x y : TextSpot) (p : Place) → PlacedJoint t b x y p → Chain t b placed placed x y (p ∷ [])
  one_name : (x y : TextSpot) → NameJoint t b x y → Chain t b of_name of_name x y []
  then_name : (k : Kind) (x o y : TextSpot) (p : Place) (ps : List Place) → PlacedJoint t b x o p → IsOccurrence o → Chain t b of_name k o y ps → Chain t b placed k x y (p ∷ ps)
  then_placed : (k : Kind) (x o y : TextSpot) (ps : List Place) → NameJoint t b x o → IsOccurrence o → Chain t b placed k o y ps → Chain t b of_name k x y ps

-- the last in the text of these places
abbrev pub IsLastOf : Place → List Place → Type 0
IsLastOf p ps = IsAmong p ps × AllByRecursion (λ q. q.from ≤ p.from) ps

-- a wire joins two spots that are points, by a chain that can't be longer, and is at the last of the chain's places
pub record IsWireOf (t : Tables) (b : Body) (x y : TextSpot) (p : Place) : Type 0 where
  pub one : IsOccurrence x → ⊥
  pub other : IsOccurrence y → ⊥
  pub first : Kind
  pub last : Kind
  pub places : List Place
  pub chain : Chain t b first last x y places
  pub place : IsLastOf p places

-- a closed wire is a chain without an end, and is at the last of its places
pub record IsClosedWireOf (t : Tables) (b : Body) (p : Place) : Type 0 where
  pub through : TextSpot
  pub occurs : IsOccurrence through
  pub places : List Place
  pub chain : Chain t b placed of_name through through places
  pub place : IsLastOf p places

-- the spot of a point: agents are numbered by their places
abbrev pub spot_at : Parts → Point → TextSpot
spot_at m (Port x i) = port_at (slice_index_or m.places x.0 (record { from = 0; to = 0; line = 0; col = 0 })) i
spot_at m (Free k) = free_end k

-- ---- the agents in the order of the text

-- an agent as written: its symbol's number, and the place of its name
pub record Written : Type 0 where
  pub symbol : ℕ
  pub place : Place

abbrev pub written_by : Option ℕ → Place → List Written
written_by None place = []
written_by (Some s) place = record { symbol = s; place = place } ∷ []

-- the agents of a term: itself, if its name is a symbol's, and then those of its arguments
abbrev pub agents_of : Tables → Term → List Written
agents_of t = fold-Term (List Written) (λ f. written_by (number_in f.name.text t.names) f.name.place ++ flat_map (λ a. a) f.args)

-- the agents of a body; the heads of a rule aren't agents
abbrev pub agents_of_heads : Tables → List LeftHead → List Written
agents_of_heads t = flat_map (λ h. flat_map (agents_of t) h.head.terms)

abbrev pub agents_of_equations : Tables → List Equation → List Written
agents_of_equations t = flat_map (λ e. agents_of t e.left ++ agents_of t e.right)

abbrev pub agents_of_body : Tables → Body → List Written
agents_of_body t b = agents_of_heads t b.heads ++ agents_of_equations t b.equations

-- a cell is a written agent: its symbol, and an end for each of its places
pub record IsCellFor (t : Tables) (w : Written) (c : Cell) : Type 0 where
  pub symbol : c.symbol.0 ≡ w.symbol
  pub ends : length c.ends ≡ arity_of t w.symbol + 1

-- the cells are these agents, in this order
abbrev pub AreCellsFor : Tables → List Written → List (Option Cell) → Type 0
AreCellsFor t [] [] = Unit {0}
AreCellsFor t [] (c ∷ cs) = ⊥
AreCellsFor t (w ∷ ws) [] = ⊥
AreCellsFor t (w ∷ ws) (None ∷ cs) = ⊥
AreCellsFor t (w ∷ ws) (Some c ∷ cs) = IsCellFor t w c × AreCellsFor t ws cs

abbrev pub IsFreeOf : Tables → SourceFree → FreeEnd → Type 0
IsFreeOf t f e = (e.name ≡ f.name.text) × (e.kind ≡ port_of t.types f.port)

-- the free ends are these, in this order, with their names and declared types
abbrev pub AreFreeOf : Tables → List SourceFree → List FreeEnd → Type 0
AreFreeOf t [] [] = Unit {0}
AreFreeOf t [] (e ∷ es) = ⊥
AreFreeOf t (f ∷ fs) [] = ⊥
AreFreeOf t (f ∷ fs) (e ∷ es) = IsFreeOf t f e × AreFreeOf t fs es

-- the net has the text's agents, numbered in the order of their names, with their places
pub record HasAgentsOf (t : Tables) (b : Body) (m : Parts) : Type 0 where
  pub built : m.built ≡ true
  pub agents : AreCellsFor t (agents_of_body t b) m.cells
  pub places : m.places ≡ map (λ w. w.place) (agents_of_body t b)

-- free ends come first, by number, then the ports of each agent in turn, by place
abbrev pub ComesBefore : Point → Point → Type 0
ComesBefore (Free k) (Free l) = k < l
ComesBefore (Free k) (Port y j) = Unit {0}
ComesBefore (Port x i) (Free l) = ⊥
ComesBefore (Port x i) (Port y j) = (x.0 < y.0) ⊎ ((x.0 ≡ y.0) × (i < j))

-- each listed wire has the point first that comes first
abbrev pub EndsInOrder : Parts → Type 0
EndsInOrder m = (w : ℕ) (x y : Point) → wire_in m w ≡ Some (x, y) → ComesBefore x y

-- the wires are those of the text: two points are partners by a wire of the text, which leads to no other spot, and the listed
-- wires are at the places of theirs, no two at one, in the order of these places, each with the point first that comes first
pub record HasWiresOf (t : Tables) (b : Body) (m : Parts) : Type 0 where
  pub partners : (x y : Point) → partner_in m x ≡ Some y → (p : Place) × IsWireOf t b (spot_at m x) (spot_at m y) p
  pub only : (x y : Point) (s : TextSpot) (p : Place) → partner_in m x ≡ Some y → IsWireOf t b (spot_at m x) s p → s ≡ spot_at m y
  pub wires : (w : ℕ) (x y : Point) (p : Place) → wire_in m w ≡ Some (x, y) → wire_place_in m w ≡ Some p → IsWireOf t b (spot_at m x) (spot_at m y) p
  pub by_place : Rises (map (λ w. w.place) m.wires)
  pub turned : EndsInOrder m

-- the parts are the net of the text: its agents, its free ends in order, with their names and declared types, and its wires, and each
-- point is in exactly one of these
pub record IsNetOf (t : Tables) (n : SourceNet) (m : Parts) : Type 0 where
  pub agents : HasAgentsOf t (body_of n) m
  pub free : AreFreeOf t n.free m.free
  pub wires : HasWiresOf t (body_of n) m
  pub whole : IsWhole m
