-- Rules. Lafont 1990: the left member of a rule is an active pair, written as its two symbols, each with a term for each of its
-- auxiliary ports; these terms are the right member, a net whose free ends are the auxiliary ports of the two symbols. That a rule may
-- have equations of its own, as a net has, is this project's own choice, and so are the numbers of boundary ends, the codes and the places.
use Rattle.std.specs.Prelude.{◌≡◌, ℕ, zero, suc, ◌+◌, ◌≤◌, Bool, true, ◌&&◌, not, cond, List, [], ◌∷◌, ◌++◌, map, Some, None, unwrap_or, slice_get, Result, Ok, Err}
use Rattle.in_syntax.specs.declared.faults.Fault.{Fault}
use Rattle.in_syntax.specs.declared.faults.Fault.TheVariants.{Refused, Memory}
use Rattle.in_syntax.specs.declared.places.Place.{Place}
use Rattle.in_syntax.specs.declared.tree.Head.{Head}
use Rattle.in_syntax.specs.declared.tree.Source.{Source}
use Rattle.in_syntax.specs.declared.tree.SourceRule.{SourceRule}
use Rattle.in_syntax.specs.declared.symbol_no.SymbolNo.{SymbolNo}
use Rattle.in_symbols.specs.Names.{number_in}
use Rattle.std.specs.List.{AllByRecursion}
use Rattle.in_symbols.specs.declared.symbols.PortType.{PortType}
use Rattle.in_syntax.specs.Order.{IsRuleInOrder}
use Rattle.in_syntax.specs.Sizes.{names_in_rule}
use Rattle.in_symbols.specs.Tables.{Tables, IsSymbol, IsRuleKnown, arity_of, port_at, is_constructor, matching}
use Rattle.in_net.specs.Built.{IsOver, HaveFewPorts}
use Rattle.in_net.specs.NetFaults.{HasNoNetFault, HasNoClosedWire, IsFirstNetFault}
use Rattle.in_net.specs.Parts.{Parts, IsWhole}
use Rattle.in_net.specs.TextNet.{Body, heads_at, HasAgentsOf, HasWiresOf}
use Rattle.in_syntax.specs.TextLimits.{max_member_agents, most_bytes}
use Rattle.in_syntax.specs.declared.text_limits.TextLimits.{TextLimits}

-- ---- the view of a rule

-- the two symbols in the order of the text, the same with the constructor first, where the heads' names are in the order of the
-- text, and the right member
pub record RuleParts : Type 0 where
  pub written : SymbolNo × SymbolNo
  pub heads : SymbolNo × SymbolNo
  pub head_places : Place × Place
  pub member : Parts

-- a property of rules over tables
abbrev pub RulesProperty : Type 1
RulesProperty = Tables → List RuleParts → Type 0

-- the place of the first head's name, which is number 0, or of the second one's
abbrev pub place_of_head : RuleParts → ℕ → Place
place_of_head r zero = r.head_places.0
place_of_head r (suc n) = r.head_places.1

-- ---- the rule of a text

-- the symbol of a head's name
abbrev pub symbol_of : Tables → Head → ℕ
symbol_of t h = unwrap_or (number_in h.name.text t.names) 0

-- the constructor is written last
abbrev pub is_turned : Tables → ℕ → ℕ → Bool
is_turned t c d = matching t c d && not (is_constructor t c)

module _ (t : Tables) (r : SourceRule) where
  -- the two symbols, as written
  abbrev pub written_of : SymbolNo × SymbolNo
  written_of = (record { 0 = symbol_of t r.first }, record { 0 = symbol_of t r.second })

  -- .. and with the constructor first, if they match
  abbrev pub heads_of : SymbolNo × SymbolNo
  heads_of = cond (is_turned t (symbol_of t r.first) (symbol_of t r.second)) (written_of.1, written_of.0) written_of

  -- a rule's body: its heads as written, and its equations. Boundary ends are numbered from 0, first those of the first of the
  -- two symbols
  abbrev pub body_of_rule : Body
  body_of_rule =
      let c = symbol_of t r.first in
      let d = symbol_of t r.second in
      record {
        free = [];
        heads = heads_at r (cond (is_turned t c d) (arity_of t d) 0) (cond (is_turned t c d) 0 (arity_of t c));
        equations = r.equations;
      }

-- the types at a given number of places from one on, and at all auxiliary places of a symbol
abbrev pub types_from : Tables → ℕ → ℕ → ℕ → List PortType
types_from t s i zero = []
types_from t s i (suc n) = port_at t s i ∷ types_from t s (i + 1) n

abbrev pub auxiliary_types : Tables → ℕ → List PortType
auxiliary_types t s = types_from t s 1 (arity_of t s)

-- the right member's free ends have the types of the heads' auxiliary ports
abbrev pub HasTypesOfHeads : Tables → RuleParts → Type 0
HasTypesOfHeads t r = map (λ f. f.kind) r.member.free ≡ auxiliary_types t r.heads.0.0 ++ auxiliary_types t r.heads.1.0

-- the right member: the agents and wires of the rule's text, and as free ends the auxiliary places of the two symbols, each declared
-- with that place's type and without a name; each point is in exactly one of these wires
pub record IsRightMemberOf (t : Tables) (r : SourceRule) (m : Parts) : Type 0 where
  pub agents : HasAgentsOf t (body_of_rule t r) m
  pub types : map (λ f. f.kind) m.free ≡ auxiliary_types t (heads_of t r).0.0 ++ auxiliary_types t (heads_of t r).1.0
  pub unnamed : AllByRecursion (λ f. f.name ≡ []) m.free
  pub wires : HasWiresOf t (body_of_rule t r) m
  pub whole : IsWhole m

-- the rule of the text
pub record IsRuleOf (t : Tables) (r : SourceRule) (p : RuleParts) : Type 0 where
  pub written : p.written ≡ written_of t r
  pub heads : p.heads ≡ heads_of t r
  pub head_places : p.head_places ≡ (r.first.name.place, r.second.name.place)
  pub member : IsRightMemberOf t r p.member

-- the rule is over these tables: its symbols are declared, and the right member is a net over them, as built
pub record IsRuleOver (t : Tables) (p : RuleParts) : Type 0 where
  pub written : IsSymbol t p.written.0.0 × IsSymbol t p.written.1.0
  pub heads : IsSymbol t p.heads.0.0 × IsSymbol t p.heads.1.0
  pub member : IsOver t p.member
  pub built : p.member.built ≡ true

-- Ok: there is no fault of agents and names and no closed wire, the rule is over the program's tables, and it is the rule of the text. A
-- refusal is for the first such fault, or, if there is none, for the first closed wire
abbrev pub BuildsRuleOf : TextLimits → Tables → SourceRule → Result RuleParts Fault → Type 0
BuildsRuleOf limits t r (Ok p) = IsRuleOver t p × IsRuleOf t r p × HasNoNetFault (max_member_agents limits) t (body_of_rule t r) × HasNoClosedWire t (body_of_rule t r)
BuildsRuleOf limits t r (Err (Refused f)) = IsFirstNetFault (max_member_agents limits) t (body_of_rule t r) f.code f.place × (f.other ≡ None)
BuildsRuleOf limits t r (Err (Memory e)) = Unit {0}

-- the same of the rule of that number
abbrev pub BuildsRule : Source → Tables → ℕ → Result RuleParts Fault → Type 0
BuildsRule source t index answer = (r : SourceRule) × (slice_get source.rules index ≡ Some r) × BuildsRuleOf source.limits t r answer

-- a rule of a parsed and tabled program: its names are known and in order, they are no more than its text has bytes,
-- and each symbol has few places
pub record IsReadable (t : Tables) (r : SourceRule) : Type 0 where
  pub known : IsRuleKnown t.names r
  pub order : IsRuleInOrder r
  pub few : names_in_rule r ≤ most_bytes
  pub small : HaveFewPorts t
