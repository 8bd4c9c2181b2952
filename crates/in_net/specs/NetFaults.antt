-- Faults of a net or a rule: those of its agents, of its names and of its wires, and the first one among them. Lafont
-- 1990 gives each symbol a number of auxiliary ports, and has each variable of a net or a rule occur twice. The limits on agents, the
-- codes, and the place of a fault are this project's own choice.
use Rattle.std.specs.Prelude.{◌≡◌, ◌≢◌, ◌⊎◌, ℕ, ◌<◌, ◌≤◌, List, length, Some, slice_get}
use Rattle.in_syntax.specs.declared.faults.Code.{Code}
use Rattle.in_syntax.specs.declared.faults.Code.TheVariants.{E03, E07, E08, E09}
use Rattle.in_syntax.specs.declared.places.Place.{Place}
use Rattle.in_syntax.specs.declared.tree.SourceFree.{SourceFree}
use Rattle.in_syntax.specs.declared.tree.Term.{Term, out-Term}
use Rattle.in_syntax.specs.Refusals.{IsFirstOf, HasNone}
use Rattle.in_symbols.specs.Tables.{Tables, arity_of}
use Rattle.in_symbols.specs.Names.{number_in}
use Rattle.in_base.specs.Lists.{IsAmong}
use Rattle.in_net.specs.TextNet.{Body, LeftHead, IsTermOf, IsAgentOfTerm, IsVariable, name_of, place_of, Written, agents_of_body, IsClosedWireOf}

-- the place is that of the name of the first agent past the limit
abbrev pub IsTooManyAt : ℕ → Tables → Body → Place → Type 0
IsTooManyAt most t b p = (w : Written) × (slice_get (agents_of_body t b) most ≡ Some w) × (w.place ≡ p)

-- an agent with another number of arguments than its symbol has auxiliary ports is at the place
pub record IsAgentMisfitAt (t : Tables) (b : Body) (p : Place) : Type 0 where
  pub term : Term
  pub there : IsTermOf b term
  pub symbol : ℕ
  pub agent : IsAgentOfTerm t term symbol
  pub apart : length (out-Term term).args ≢ arity_of t symbol
  pub place : place_of term ≡ p

-- a head with another number of terms than its symbol has auxiliary ports is at the place
pub record IsHeadMisfitAt (t : Tables) (b : Body) (p : Place) : Type 0 where
  pub left : LeftHead
  pub there : IsAmong left b.heads
  pub symbol : ℕ
  pub named : number_in left.head.name.text t.names ≡ Some symbol
  pub apart : length left.head.terms ≢ arity_of t symbol
  pub place : left.head.name.place ≡ p

-- the place is that of an agent's or a head's name, with another number of terms than its symbol has auxiliary ports
abbrev pub IsMisfitAt : Tables → Body → Place → Type 0
IsMisfitAt t b p = IsAgentMisfitAt t b p ⊎ IsHeadMisfitAt t b p

-- the term is an occurrence of that variable or free name
abbrev pub Occurs : Tables → Body → List ℕ → Term → Type 0
Occurs t b name u = IsTermOf b u × IsVariable t u × (name_of u ≡ name)

abbrev pub IsFreeName : Body → List ℕ → Type 0
IsFreeName b name = (f : SourceFree) × IsAmong f b.free × (f.name.text ≡ name)

-- the first is before the second in the text
abbrev pub IsBefore : Term → Term → Type 0
IsBefore u v = (place_of u).from < (place_of v).from

-- the place is that of a variable's only occurrence or its third one, the declaration of a free name that doesn't occur, or the
-- second occurrence of one
pub data IsMiscountedAt (t : Tables) (b : Body) : Place → Type 0 where
  only : (u : Term) → Occurs t b (name_of u) u → (IsFreeName b (name_of u) → ⊥) → ((v : Term) → Occurs t b (name_of u) v → place_of v ≡ place_of u) → IsMiscountedAt t b (place_of u)
  third : (u v w : Term) → Occurs t b (name_of w) u → Occurs t b (name_of w) v → Occurs t b (name_of w) w → (IsFreeName b (name_of w) → ⊥) → IsBefore u v → IsBefore v w →
      ((x : Term) → Occurs t b (name_of w) x → IsBefore x w → (place_of x ≡ place_of u) ⊎ (place_of x ≡ place_of v)) → IsMiscountedAt t b (place_of w)
  missing : (f : SourceFree) → IsAmong f b.free → ((u : Term) → Occurs t b f.name.text u → ⊥) → IsMiscountedAt t b f.name.place
  second : (f : SourceFree) (u v : Term) → IsAmong f b.free → Occurs t b f.name.text u → Occurs t b f.name.text v → IsBefore u v → ((x : Term) → Occurs t b f.name.text x → IsBefore x v → place_of x ≡ place_of u) → IsMiscountedAt t b (place_of v)

-- a fault of the agents or names of this code is at the place
pub data IsNetFaultAt (most : ℕ) (t : Tables) (b : Body) : Code → Place → Type 0 where
  too_many : (p : Place) → IsTooManyAt most t b p → IsNetFaultAt most t b E03 p
  misfit : (p : Place) → IsMisfitAt t b p → IsNetFaultAt most t b E07 p
  miscounted : (p : Place) → IsMiscountedAt t b p → IsNetFaultAt most t b E08 p

abbrev pub HasNoNetFault : ℕ → Tables → Body → Type 0
HasNoNetFault most t b = HasNone (IsNetFaultAt most t b)

-- a fault of agents or names is there, none is earlier, and none at its place has a lower code
abbrev pub IsFirstNameFault : ℕ → Tables → Body → Code → Place → Type 0
IsFirstNameFault most t b = IsFirstOf (IsNetFaultAt most t b)

-- the first fault of a net or a rule: the first one of agents and names; if there is none of these, the first closed wire
pub data IsFirstNetFault (most : ℕ) (t : Tables) (b : Body) : Code → Place → Type 0 where
  of_names : (c : Code) (p : Place) → IsFirstNameFault most t b c p → IsFirstNetFault most t b c p
  of_wires : (p : Place) → HasNoNetFault most t b → IsClosedWireOf t b p → ((q : Place) → IsClosedWireOf t b q → p.from ≤ q.from) → IsFirstNetFault most t b E09 p

-- no wire of its text is closed
abbrev pub HasNoClosedWire : Tables → Body → Type 0
HasNoClosedWire t b = (q : Place) → IsClosedWireOf t b q → ⊥
