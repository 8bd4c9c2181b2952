-- An interaction is a gluing of two nets: the net without the active pair, which is open at the pair's auxiliary ports, and the right
-- member of the rule. Lafont 1990: the right member takes the place of the pair on the same boundary ends. How the free ends of the net
-- without the pair are numbered is this project's own choice.
use Rattle.std.specs.Prelude.{◌≡◌, ◌≢◌, ◌⊎◌, ◌↔◌, ◌+◌, ◌<◌, ℕ, zero, suc, Bool, false, cond, nat_lt, List, [], ◌∷◌, ◌++◌, length, map, Option, Some, None}
use Rattle.in_net.specs.Interactions.{Redex, IsRedex, IsNaming, IsStep, end_agent, end_place}
use Rattle.in_net.specs.Nets.{Point, Port, Free, Signature, Net, IsNet}
use Rattle.in_typing.specs.Typed.{opposite}
use Rattle.in_gluing.specs.Gluing.{Cuts, IsGlued, AreCuts}

-- ---- the two parts

-- the port of the pair at the boundary end of this number
abbrev pub boundary_port : Signature → Redex ℕ ℕ → ℕ → Point ℕ
boundary_port sig x e = Port (end_agent sig x e) (end_place sig x e)

-- the point of the rest for a point of the net: the port of the pair at a boundary end is the free end of that number, the net's own free
-- ends come after these, and the pair's principal ports have none
abbrev pub IsInRest : Signature → Redex ℕ ℕ → Point ℕ → Point ℕ → Type 0
IsInRest sig x (Port y i) u = ((y ≢ x.one) × (y ≢ x.two) × (u ≡ Port y i)) ⊎ ((e : ℕ) × (e < length x.member.free) × (boundary_port sig x e ≡ Port y i) × (u ≡ Free e))
IsInRest sig x (Free k) u = u ≡ Free (length x.member.free + k)

-- the rest of the net without the active pair: its other agents, and the wires except the one between the pair's principal ports. It is open
-- at the pair's auxiliary ports
pub record IsRestOf (sig : Signature) (n : Net ℕ) (x : Redex ℕ ℕ) (rest : Net ℕ) : Type 0 where
  pub agents : (y s : ℕ) → (rest.symbol y ≡ Some s) ↔ ((y ≢ x.one) × (y ≢ x.two) × (n.symbol y ≡ Some s))
  pub wires : (u v : Point ℕ) → (rest.partner u ≡ Some v) ↔ ((p q : Point ℕ) × IsInRest sig x p u × IsInRest sig x q v × (n.partner p ≡ Some q))
  pub free : rest.free ≡ map opposite x.member.free ++ n.free

abbrev pub empty : Net ℕ
empty = record { symbol = λ y. None; partner = λ u. None; free = [] }

-- the rest is part 0, and the right member part 1
abbrev pub two_parts : Net ℕ → Net ℕ → ℕ → Net ℕ
two_parts rest member zero = rest
two_parts rest member (suc zero) = member
two_parts rest member (suc (suc i)) = empty

-- agents that stay keep their names, and new ones get theirs
abbrev pub old_and_new : (ℕ → ℕ) → ℕ → ℕ → ℕ
old_and_new name zero y = y
old_and_new name (suc i) k = name k

-- ---- the joints

-- each of these boundary ends of the rest is joined to the right member's free end of the same number
abbrev pub across_at : (ℕ → Bool) → ℕ → ℕ → Option (ℕ × ℕ)
across_at joined zero e = cond (joined e) (Some (1, e)) None
across_at joined (suc zero) e = cond (joined e) (Some (0, e)) None
across_at joined (suc (suc i)) e = None

-- a given number of free ends of the rest, from this one on
abbrev pub own_ends : ℕ → ℕ → List (ℕ × ℕ)
own_ends first zero = []
own_ends first (suc k) = (0, first) ∷ own_ends (suc first) k

-- the joints at these boundary ends. The net's own free ends stay
abbrev pub boundary : Net ℕ → Redex ℕ ℕ → (ℕ → Bool) → Cuts
boundary n x joined = record { across = λ p. across_at joined p.0 p.1; outer = own_ends (length x.member.free) (length n.free) }

-- the boundary ends from this one on
abbrev pub ends_from : Redex ℕ ℕ → ℕ → ℕ → Bool
ends_from x e d = cond (nat_lt d e) false (nat_lt d (length x.member.free))

-- all of them
abbrev pub all_ends : Redex ℕ ℕ → ℕ → Bool
all_ends x = ends_from x 0

-- ---- the bridge

-- an active pair of a net and the right member of its rule, which is a net too, and new names for the new agents
pub record CanStep (sig : Signature) (n : Net ℕ) (x : Redex ℕ ℕ) (name : ℕ → ℕ) : Type 0 where
  pub net : IsNet sig n
  pub inside : IsNet sig x.member
  pub redex : IsRedex sig n x
  pub naming : IsNaming n x name

-- a net is the one after an interaction exactly when the rest and the right member are glued to it along all boundary ends
abbrev pub InteractionsAreGluings : Type 0
InteractionsAreGluings = (sig : Signature) (n : Net ℕ) (x : Redex ℕ ℕ) (name : ℕ → ℕ) (rest after : Net ℕ) → CanStep sig n x name → IsRestOf sig n x rest →
    IsStep sig n x name after ↔ IsGlued (two_parts rest x.member) (old_and_new name) (boundary n x (all_ends x)) after

-- there is such a rest
abbrev pub RestExists : Type 0
RestExists = (sig : Signature) (n : Net ℕ) (x : Redex ℕ ℕ) → IsNet sig n → IsNet sig x.member → IsRedex sig n x → (rest : Net ℕ) × IsRestOf sig n x rest

-- .. it is a net
abbrev pub RestIsNet : Type 0
RestIsNet = (sig : Signature) (n : Net ℕ) (x : Redex ℕ ℕ) (name : ℕ → ℕ) (rest : Net ℕ) → CanStep sig n x name → IsRestOf sig n x rest → IsNet sig rest

-- .. and it is cut from the right member at free ends that are declared with opposite types, while the net's own free ends stay
abbrev pub BoundaryIsCut : Type 0
BoundaryIsCut = (sig : Signature) (n : Net ℕ) (x : Redex ℕ ℕ) (rest : Net ℕ) → IsRestOf sig n x rest → AreCuts (two_parts rest x.member) (boundary n x (all_ends x))
