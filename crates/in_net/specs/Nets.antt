-- Nets over any names of agents. Lafont 1990: agents carry symbols, and each port and each free end is on exactly one wire.
use Rattle.std.specs.Prelude.{◌≡◌, ◌≢◌, ℕ, suc, ◌<◌, ◌≤◌, List, length, map, Option, Some, IsSome, IsSomeAnd, option_map}
use Rattle.in_symbols.specs.declared.symbols.PortType.{PortType}
use Rattle.in_net.specs.declared.nets.Point as points
use Rattle.in_net.specs.declared.nets.Point.TheVariants as point
use Rattle.in_symbols.specs.Tables.{Tables, arity_of, port_at, class_at}
use Rattle.in_net.specs.Parts.{Parts, symbol_in, partner_in}
use Rattle.in_base.specs.Lists.{IsAmong}

-- a port of an agent, by its place, or a free end
pub data Point (A : Type 0) : Type 0 where
  Port : A → ℕ → Point A
  Free : ℕ → Point A

-- the symbols, by number: how many auxiliary places each has, and the type and class of each place. Place 0 is the principal port
pub record Signature : Type 0 where
  pub arity : ℕ → ℕ
  pub type_of : ℕ → ℕ → PortType
  pub class_of : ℕ → ℕ → ℕ

-- the principal port is a class by itself
abbrev pub AreClasses : Signature → Type 0
AreClasses sig = (s i : ℕ) → sig.class_of s (suc i) ≢ sig.class_of s 0

-- the agents' symbols, the points' partners, and the declared types of the free ends
pub record Net (A : Type 0) : Type 0 where
  pub symbol : A → Option ℕ
  pub partner : Point A → Option (Point A)
  pub free : List PortType

abbrev pub IsPoint : {A : Type 0} → Signature → Net A → Point A → Type 0
IsPoint sig n (Port x i) = IsSomeAnd (n.symbol x) (λ s. i ≤ sig.arity s)
IsPoint sig n (Free k) = k < length n.free

-- finitely many agents, and each point in exactly one wire
pub record IsNet {A : Type 0} (sig : Signature) (n : Net A) : Type 0 where
  pub agents : List A
  pub all : (x : A) → IsSome (n.symbol x) → IsAmong x agents
  pub joined : (p : Point A) → IsPoint sig n p → IsSome (n.partner p)
  pub points : (p q : Point A) → n.partner p ≡ Some q → IsPoint sig n p
  pub back : (p q : Point A) → n.partner p ≡ Some q → n.partner q ≡ Some p
  pub apart : (p : Point A) → n.partner p ≢ Some p

-- ---- the signature of tables, and the net that parts are

abbrev pub signature_of : Tables → Signature
signature_of t = record { arity = arity_of t; type_of = port_at t; class_of = class_at t }

-- a point of the code as a point over agents' numbers, and back
abbrev pub point_of : points.Point → Point ℕ
point_of (point.Port x i) = Port x.0 i
point_of (point.Free k) = Free k

abbrev pub coded_point : Point ℕ → points.Point
coded_point (Port x i) = point.Port (record { 0 = x }) i
coded_point (Free k) = point.Free k

-- the net that the parts are, over the agents' numbers
abbrev pub net_of : Parts → Net ℕ
net_of m = record {
  symbol = λ x. option_map (λ s. s.0) (symbol_in m x);
  partner = λ p. option_map point_of (partner_in m (coded_point p));
  free = map (λ f. f.kind) m.free;
}
