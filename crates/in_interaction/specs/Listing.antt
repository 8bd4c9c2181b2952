-- Wires that are listed by their first points. Words of the inner contracts of `interact`.
use Rattle.std.specs.Prelude.{◌≡◌, ◌⊎◌, ◌<◌, ◌≤◌, ◌+◌, ℕ, false, List, [], ◌∷◌, ◌++◌, length, map, Option, Some, option_map, option_and_then, slice_get}
use Rattle.in_syntax.specs.Grammar.{max_ports}
use Rattle.in_net.specs.declared.nets.AgentNo.{AgentNo}
use Rattle.in_net.specs.declared.nets.Cell.{Cell}
use Rattle.in_net.specs.declared.nets.FreeEnd.{FreeEnd}
use Rattle.in_net.specs.declared.nets.Point.{Point}
use Rattle.in_net.specs.declared.nets.Point.TheVariants.{Port}
use Rattle.in_net.specs.declared.nets.Wire.{Wire}
use Rattle.in_net.specs.Parts.{Parts, cell_in, partner_in}
use Rattle.in_net.specs.TextNet.{ComesBefore}

-- agents and free ends whose wires are not listed yet
abbrev pub unlisted : List (Option Cell) → List FreeEnd → Parts
unlisted cells free = record { cells = cells; free = free; wires = []; places = []; built = false }

-- these are the partners of the free ends
abbrev pub AreEndsOf : List Point → List FreeEnd → Type 0
AreEndsOf ends free = map (λ f. f.end) free ≡ ends

-- the wire of two points, which has no place in a text
abbrev pub wire_between : Point → Point → Wire
wire_between p q = record { one = p; other = q; place = record { from = 0; to = 0; line = 0; col = 0 } }

-- the wire is added at the end, if its first point comes first
abbrev pub AddsWire : Point → Point → List Wire → List Wire → Type 0
AddsWire p q old new = (ComesBefore p q × (new ≡ old ++ wire_between p q ∷ [])) ⊎ ((ComesBefore p q → ⊥) × (new ≡ old))

abbrev pub wire_at : List Wire → ℕ → Option (Point × Point)
wire_at ws w = option_map (λ v. (v.one, v.other)) (slice_get ws w)

-- of the points that are done, each that comes before its partner begins a listed wire, in the order of the points
pub record AreListed (n : Parts) (Done : Point → Type 0) (ws : List Wire) : Type 0 where
  pub sound : (w : ℕ) (p q : Point) → wire_at ws w ≡ Some (p, q) → (partner_in n p ≡ Some q) × ComesBefore p q × Done p
  pub all : (p q : Point) → partner_in n p ≡ Some q → ComesBefore p q → Done p → (w : ℕ) × (wire_at ws w ≡ Some (p, q))
  pub rising : (v w : ℕ) (p q x y : Point) → v < w → wire_at ws v ≡ Some (p, q) → wire_at ws w ≡ Some (x, y) → ComesBefore p x
  pub nowhere : map (λ w. w.place) ws ≡ map (λ w. record { from = 0; to = 0; line = 0; col = 0 }) ws

-- .. also those of an agent with these ends
abbrev pub AddsWires : AgentNo → List Point → List Wire → List Wire → Type 0
AddsWires x ends old new = (n : Parts) (c : Cell) → cell_in n x.0 ≡ Some c → c.ends ≡ ends → AreListed n (λ p. ComesBefore p (Port x 0)) old →
    AreListed n (λ p. ComesBefore p (Port x (length ends))) new

-- no agent has more ends than a symbol may have ports
abbrev pub HaveFewEnds : List (Option Cell) → Type 0
HaveFewEnds cs = (x : ℕ) (c : Cell) → option_and_then (λ c. c) (slice_get cs x) ≡ Some c → length c.ends ≤ max_ports + 1
