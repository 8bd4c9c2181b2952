-- The view of a net: all that its accessors read.
use Rattle.std.specs.Prelude.{◌≡◌, ◌≢◌, ◌⊎◌, ℕ, ◌+◌, ◌^◌, ◌<◌, ◌≤◌, Bool, true, List, length, Option, Some, IsSomeAnd, option_map, option_and_then, slice_get}
use Rattle.in_syntax.specs.declared.places.Place.{Place}
use Rattle.in_syntax.specs.Grammar.{max_ports}
use Rattle.in_symbols.specs.declared.symbols.PortType.{PortType}
use Rattle.in_syntax.specs.declared.symbol_no.SymbolNo.{SymbolNo}
use Rattle.in_net.specs.declared.nets.Point.{Point}
use Rattle.in_net.specs.declared.nets.Point.TheVariants.{Port, Free}
use Rattle.in_net.specs.declared.nets.Cell.{Cell}
use Rattle.in_net.specs.declared.nets.FreeEnd.{FreeEnd}
use Rattle.in_net.specs.declared.nets.Wire.{Wire}
use Rattle.in_syntax.specs.TextLimits.{most_free}

-- agents by number, with the partner of each of their places; free ends; wires by number; agents' places
pub record Parts : Type 0 where
  pub cells : List (Option Cell)
  pub free : List FreeEnd
  pub wires : List Wire
  pub places : List Place
  pub built : Bool

-- a net as built from a text
abbrev pub as_built : List (Option Cell) → List FreeEnd → List Wire → List Place → Parts
as_built cells free wires places = record { cells = cells; free = free; wires = wires; places = places; built = true }

abbrev pub cell_in : Parts → ℕ → Option Cell
cell_in n x = option_and_then (λ c. c) (slice_get n.cells x)

abbrev pub symbol_in : Parts → ℕ → Option SymbolNo
symbol_in n x = option_map (λ c. c.symbol) (cell_in n x)

-- a port of an agent that is there, or a free end
abbrev pub IsPointOf : Parts → Point → Type 0
IsPointOf n (Port x i) = IsSomeAnd (cell_in n x.0) (λ c. i < length c.ends)
IsPointOf n (Free k) = k < length n.free

abbrev pub partner_in : Parts → Point → Option Point
partner_in n (Port x i) = option_and_then (λ c. slice_get c.ends i) (cell_in n x.0)
partner_in n (Free k) = option_map (λ f. f.end) (slice_get n.free k)

abbrev pub wire_in : Parts → ℕ → Option (Point × Point)
wire_in n w = option_map (λ v. (v.one, v.other)) (slice_get n.wires w)

abbrev pub wire_place_in : Parts → ℕ → Option Place
wire_place_in n w = option_map (λ v. v.place) (slice_get n.wires w)

abbrev pub agent_place_in : Parts → ℕ → Option Place
agent_place_in n x = slice_get n.places x

abbrev pub free_type_in : Parts → ℕ → Option PortType
free_type_in n k = option_map (λ f. f.kind) (slice_get n.free k)

abbrev pub free_name_in : Parts → ℕ → Option (List ℕ)
free_name_in n k = option_map (λ f. f.name) (slice_get n.free k)

-- the wire of that number joins these two points, in either order
abbrev pub IsWireBetween : Parts → ℕ → Point → Point → Type 0
IsWireBetween n w p q = (wire_in n w ≡ Some (p, q)) ⊎ (wire_in n w ≡ Some (q, p))

-- numbers fit: an agent has no more ends than a symbol may have ports, and there are no more free ends than a net may have. Each point is
-- in exactly one wire: its partner's partner is the point, never itself, and just one listed wire joins them. As built, each agent has a
-- place
pub record IsWhole (n : Parts) : Type 0 where
  pub agents : length n.cells < 2 ^ 32
  pub ports : (x : ℕ) (c : Cell) → cell_in n x ≡ Some c → length c.ends ≤ max_ports + 1
  pub ends : length n.free ≤ most_free
  pub wires : length n.wires < 2 ^ 32
  pub back : (p q : Point) → partner_in n p ≡ Some q → partner_in n q ≡ Some p
  pub apart : (p : Point) → partner_in n p ≢ Some p
  pub listed : (p q : Point) → partner_in n p ≡ Some q → (w : ℕ) × IsWireBetween n w p q
  pub partners : (w : ℕ) (p q : Point) → wire_in n w ≡ Some (p, q) → partner_in n p ≡ Some q
  pub once : (v w : ℕ) (p q : Point) → IsWireBetween n v p q → IsWireBetween n w p q → v ≡ w
  pub placed : n.built ≡ true → length n.places ≡ length n.cells
