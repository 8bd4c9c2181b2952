-- Typed nets over any names of agents. Lafont 1990: a wire joins an output to an input of one type.
use Rattle.std.specs.Prelude.{◌≡◌, ◌⊎◌, slice_get, Option, Some, None}
use Rattle.in_symbols.specs.declared.symbols.PortType.{PortType}
use Rattle.in_net.specs.Interactions.{Redex, stands_for}
use Rattle.in_net.specs.Nets.{Point, Port, Free, Signature, Net}
use Rattle.in_typing.specs.Typed.{opposite}

-- the type at a point: a port's own, and the opposite of the one declared at a free end
abbrev pub type_in : {A : Type 0} → Signature → Net A → Point A → Option PortType
type_in sig n (Port x i) = elim (n.symbol x) [ None ↦ None | Some s ↦ Some (sig.type_of s i) ]
type_in sig n (Free k) = elim (slice_get n.free k) [ None ↦ None | Some t ↦ Some (opposite t) ]

-- the points of each wire have types of one name and opposite signs
abbrev pub IsTypedNet : {A : Type 0} → Signature → Net A → Type 0
IsTypedNet {A} sig n = (p q : Point A) (s t : PortType) → n.partner p ≡ Some q → type_in sig n p ≡ Some s → type_in sig n q ≡ Some t → t ≡ opposite s

-- the type at a point that stays through an interaction: that of the net before, or, at a port of a new agent, that of the right member
abbrev pub HasType : {A B : Type 0} → Signature → Net A → Redex A B → (B → A) → Point A → PortType → Type 0
HasType {A} {B} sig n x name u t = (type_in sig n u ≡ Some t) ⊎ ((p : Point B) × (stands_for sig x name p ≡ u) × (type_in sig x.member p ≡ Some t))
