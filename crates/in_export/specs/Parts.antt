-- The parts of an accepted program as JSON: its tables, its nets, its certificates. Their form is this project's own choice. All numbers are
-- those of the tables, nets and open nets.
use Rattle.std.specs.Prelude.{ℕ, zero, suc, ◌+◌, nat_eq, Bool, false, ◌&&◌, cond, List, [], ◌∷◌, ◌++◌, length, codes, decimal, Option, Some, None, unwrap_or, slice_get}
use Rattle.in_symbols.specs.Names.{name_in}
use Rattle.in_symbols.specs.Tables.{Tables, arity_of, port_at, class_at}
use Rattle.in_symbols.specs.declared.symbols.PortType.{PortType}
use Rattle.in_syntax.specs.declared.symbol_no.SymbolNo.{SymbolNo}
use Rattle.in_net.specs.declared.nets.Point.{Point}
use Rattle.in_net.specs.declared.nets.Point.TheVariants.{Port, Free}
use Rattle.in_net.specs.Parts.{Parts, symbol_in, wire_in, free_name_in, free_type_in}
use Rattle.in_open_nets.specs.declared.open_nets.Node.{Node}
use Rattle.in_open_nets.specs.declared.open_nets.Node.TheVariants.{AgentNode, ClassNode}
use Rattle.in_open_nets.specs.declared.derivations.Derivation.{Derivation}
use Rattle.in_open_nets.specs.declared.derivations.Step.{Step}
use Rattle.in_open_nets.specs.declared.derivations.Step.TheVariants.{Empty, Link, Given, Graft, Cut, Mix}
use Rattle.in_open_nets.specs.OpenNets.{OpenNet, node_in}
use Rattle.in_export.specs.Json.{name_text, bool_text, key, array, numbers_text}

-- ---- tables

abbrev pub types_text : Tables → List ℕ
types_text t = array (λ k. name_text (name_in k t.types)) (length t.types)

-- the number of a type, and whether the port is an output
abbrev pub port_type_text : PortType → List ℕ
port_type_text p = key (codes "type") ++ (decimal p.kind ++ (codes "," ++ (key (codes "output") ++ bool_text p.output)))

-- the port of a symbol at a place: its type and its class
abbrev pub port_text : Tables → ℕ → ℕ → List ℕ
port_text t s i = codes "{" ++ (port_type_text (port_at t s i) ++ (codes "," ++ (key (codes "class") ++ (decimal (class_at t s i) ++ codes "}"))))

-- the ports by place, the principal port first
abbrev pub ports_text : Tables → ℕ → List ℕ
ports_text t s = array (port_text t s) (arity_of t s + 1)

abbrev pub symbol_text : Tables → ℕ → List ℕ
symbol_text t s = codes "{" ++ (key (codes "name") ++ (name_text (name_in s t.names) ++ (codes "," ++ (key (codes "ports") ++ (ports_text t s ++ codes "}")))))

abbrev pub symbols_text : Tables → List ℕ
symbols_text t = array (symbol_text t) (length t.names)

-- ---- nets

-- an agent's port by the agent and the place, a free end by its number
abbrev pub point_text : Point → List ℕ
point_text (Port x i) = codes "[" ++ (decimal x.0 ++ (codes "," ++ (decimal i ++ codes "]")))
point_text (Free k) = codes "[" ++ (decimal k ++ codes "]")

abbrev pub wire_text : Option (Point × Point) → List ℕ
wire_text None = []
wire_text (Some (p, q)) = codes "[" ++ (point_text p ++ (codes "," ++ (point_text q ++ codes "]")))

abbrev pub wires_text : Parts → List ℕ
wires_text n = array (λ w. wire_text (wire_in n w)) (length n.wires)

-- an agent by its symbol. (As built, each number has an agent.)
abbrev pub agent_text : Option SymbolNo → List ℕ
agent_text None = codes "null"
agent_text (Some s) = decimal s.0

abbrev pub agents_text : Parts → List ℕ
agents_text n = array (λ x. agent_text (symbol_in n x)) (length n.cells)

abbrev pub is_principal : Point → Bool
is_principal (Port x i) = nat_eq i 0
is_principal (Free k) = false

abbrev pub joins_principals : Option (Point × Point) → Bool
joins_principals None = false
joins_principals (Some (p, q)) = is_principal p && is_principal q

-- the wires that join two principal ports, among a given number of wires from number w on: Lafont 1990 calls their agents an active pair
abbrev pub active_from : Parts → ℕ → ℕ → List ℕ
active_from n w zero = []
active_from n w (suc many) = cond (joins_principals (wire_in n w)) (w ∷ active_from n (w + 1) many) (active_from n (w + 1) many)

abbrev pub active_wires : Parts → List ℕ
active_wires n = active_from n 0 (length n.wires)

-- the agents, the wires, and the wires that are active pairs, in the order in which a run begins with them
abbrev pub graph_text : Parts → List ℕ
graph_text n = key (codes "agents") ++ (agents_text n ++ (codes "," ++ (key (codes "wires") ++ (wires_text n ++ (codes "," ++ (key (codes "active") ++ numbers_text (active_wires n)))))))

-- a free end: its name and its declared type
abbrev pub no_type : PortType
no_type = record { kind = 0; output = false }

abbrev pub free_end_text : Parts → ℕ → List ℕ
free_end_text n k =
    codes "{" ++ (key (codes "name") ++ (name_text (unwrap_or (free_name_in n k) []) ++ (codes "," ++ (port_type_text (unwrap_or (free_type_in n k) no_type) ++ codes "}"))))

abbrev pub free_ends_text : Parts → List ℕ
free_ends_text n = array (free_end_text n) (length n.free)

-- ---- certificates

-- an agent by its symbol, a class of a head by the head's symbol and the number of the class
abbrev pub node_text : Option Node → List ℕ
node_text None = []
node_text (Some (AgentNode s)) = codes "[" ++ (decimal s.0 ++ codes "]")
node_text (Some (ClassNode s c)) = codes "[" ++ (decimal s.0 ++ (codes "," ++ (decimal c ++ codes "]")))

abbrev pub nodes_text : OpenNet → List ℕ
nodes_text o = array (λ k. node_text (node_in o k)) (length o.nodes)

abbrev pub step_name : Step → List ℕ
step_name Empty = codes "empty"
step_name (Link w) = codes "link"
step_name (Given n) = codes "given"
step_name (Graft n steps) = codes "graft"
step_name (Cut w a b) = codes "cut"
step_name (Mix a b) = codes "mix"

-- a comma and a number
abbrev pub further : ℕ → List ℕ
further k = codes "," ++ decimal k

-- the wire and the node of a step, and the steps that it names
abbrev pub operands_text : Step → List ℕ
operands_text Empty = []
operands_text (Link w) = further w
operands_text (Given n) = further n
operands_text (Graft n steps) = further n ++ (codes "," ++ numbers_text steps)
operands_text (Cut w a b) = further w ++ (further a ++ further b)
operands_text (Mix a b) = further a ++ further b

abbrev pub step_text : Option Step → List ℕ
step_text None = []
step_text (Some s) = codes "[" ++ (name_text (step_name s) ++ (operands_text s ++ codes "]"))

abbrev pub steps_text : List Step → List ℕ
steps_text steps = array (λ k. step_text (slice_get steps k)) (length steps)

abbrev pub certificate_text : Option OpenNet → Option Derivation → List ℕ
certificate_text (Some o) (Some d) = key (codes "nodes") ++ (nodes_text o ++ (codes "," ++ (key (codes "steps") ++ steps_text d.steps)))
certificate_text _ _ = []
