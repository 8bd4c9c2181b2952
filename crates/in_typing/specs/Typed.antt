-- Typed nets. Lafont 1990: a wire joins an output to an input of one type.
use Rattle.std.specs.Prelude.{◌≡◌, ℕ, ◌<◌, true, not, length, Option, Some, None, Result, Ok, Err, option_map}
use Rattle.in_syntax.specs.declared.faults.Refusal.{Refusal}
use Rattle.in_syntax.specs.declared.faults.Code.TheVariants.{E10, E11}
use Rattle.in_symbols.specs.declared.symbols.PortType.{PortType}
use Rattle.in_net.specs.declared.nets.Point.{Point}
use Rattle.in_net.specs.declared.nets.Point.TheVariants.{Port, Free}
use Rattle.in_symbols.specs.Tables.{Tables, port_at, matching}
use Rattle.in_net.specs.Rules.{RuleParts, place_of_head}
use Rattle.in_net.specs.Parts.{Parts, symbol_in, free_type_in, wire_in, wire_place_in}

abbrev pub opposite : PortType → PortType
opposite p = record { kind = p.kind; output = not p.output }

-- the type at a point: a port's own, and the opposite of the one that a free end is declared with
abbrev pub type_at : Tables → Parts → Point → Option PortType
type_at t n (Port x i) = option_map (λ s. port_at t s.0 i) (symbol_in n x.0)
type_at t n (Free k) = option_map opposite (free_type_in n k)

-- the two types have one name and opposite signs
abbrev pub WireFits : Tables → Parts → Point → Point → Type 0
WireFits t n one other = type_at t n one ≡ option_map opposite (type_at t n other)

-- the wire of that number fits
abbrev pub FitsAt : Tables → Parts → ℕ → Type 0
FitsAt t n w = (one other : Point) → wire_in n w ≡ Some (one, other) → WireFits t n one other

-- each wire fits
abbrev pub IsTyped : Tables → Parts → Type 0
IsTyped t n = (w : ℕ) → FitsAt t n w

-- the first wire that doesn't fit, by the order of places, in which wires are numbered
pub record IsMistyped (t : Tables) (n : Parts) (r : Refusal) : Type 0 where
  pub wire : ℕ
  pub stands : wire < length n.wires
  pub mistyped : FitsAt t n wire → ⊥
  pub first : (w : ℕ) → w < wire → FitsAt t n w
  pub code : r.code ≡ E10
  pub place : wire_place_in n wire ≡ Some r.place
  pub other : r.other ≡ None

-- Ok exactly when each wire fits; a refusal is for the first wire that doesn't fit
abbrev pub Types : Tables → Parts → Result (Unit {0}) Refusal → Type 0
Types t n (Ok u) = IsTyped t n
Types t n (Err r) = IsMistyped t n r

-- ---- rules

-- one of the rule's two symbols is a constructor, the other a destructor of its type. Lafont 1990: the left member is a pair that can
-- be in a typed net
abbrev pub HeadsMatch : Tables → RuleParts → Type 0
HeadsMatch t r = matching t r.heads.0.0 r.heads.1.0 ≡ true

-- a refusal is at the second head's name if the heads don't match; otherwise it is for the first wire of the right member that doesn't fit
pub data IsRuleMistyped (t : Tables) (p : RuleParts) (r : Refusal) : Type 0 where
  of_heads : (HeadsMatch t p → ⊥) → r ≡ record { code = E11; place = place_of_head p 1; other = None } → IsRuleMistyped t p r
  of_wire : HeadsMatch t p → IsMistyped t p.member r → IsRuleMistyped t p r

-- Ok exactly when the heads' principal types are opposite, and each wire of the right member fits
abbrev pub TypesRule : Tables → RuleParts → Result (Unit {0}) Refusal → Type 0
TypesRule t p (Ok u) = HeadsMatch t p × IsTyped t p.member
TypesRule t p (Err r) = IsRuleMistyped t p r
