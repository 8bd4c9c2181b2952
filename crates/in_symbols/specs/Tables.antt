-- The tables of a program: the declarations of its types and symbols. Lafont 1990: a symbol has a principal port and auxiliary
-- ports, each with a type and a sign, and its auxiliary ports fall into classes.
use Rattle.std.specs.Prelude.{◌≡◌, ℕ, zero, suc, ◌+◌, ◌-◌, ◌<◌, ◌≤◌, Bool, true, false, not, nat_eq, ◌||◌, ◌&&◌, List, [], ◌∷◌, ◌++◌, length, map, unwrap_or, slice_index_or, slice_get, Option, Some, None, IsSome, is_some, Result, Ok, Err, option_map}
use Rattle.std.proofs.Math.ListN.{replicate}
use Rattle.in_syntax.specs.declared.faults.Fault.{Fault}
use Rattle.in_syntax.specs.declared.tree.Term.{Term}
use Rattle.in_syntax.specs.declared.tree.Term.TheFolds.{fold-Term}
use Rattle.in_syntax.specs.declared.tree.Equation.{Equation}
use Rattle.in_syntax.specs.declared.tree.Head.{Head}
use Rattle.std.specs.List.{flat_map, AllByRecursion}
use Rattle.in_syntax.specs.declared.places.Place.{Place}
use Rattle.in_syntax.specs.declared.tree.Source.{Source}
use Rattle.in_syntax.specs.declared.tree.SourceFree.{SourceFree}
use Rattle.in_syntax.specs.declared.tree.SourcePort.{SourcePort}
use Rattle.in_syntax.specs.declared.tree.SourceRule.{SourceRule}
use Rattle.in_syntax.specs.declared.tree.SourceSymbol.{SourceSymbol}
use Rattle.in_symbols.specs.declared.symbols.PortType.{PortType}
use Rattle.in_symbols.specs.declared.symbols.Shape.{Shape}
use Rattle.in_syntax.specs.declared.symbol_no.SymbolNo.{SymbolNo}
use Rattle.in_syntax.specs.declared.faults.Fault.TheVariants.{Refused, Memory}
use Rattle.in_symbols.specs.Faults.{IsFaultless, IsFirstFault}
use Rattle.in_symbols.specs.Names.{number_in}
use Rattle.in_syntax.specs.Grammar.{max_ports}

-- the names of the types, the names of the symbols, and the declaration of each symbol, in the order of declaration
pub record Tables : Type 0 where
  pub types : List (List ℕ)
  pub names : List (List ℕ)
  pub shapes : List Shape

-- the type of a port as declared: the number of the type's name, and the sign
abbrev pub port_of : List (List ℕ) → SourcePort → PortType
port_of types p = record { kind = unwrap_or (number_in p.kind.text types) 0; output = p.output }

-- the places of a class have its number; classes count from 1
abbrev pub classes_from : ℕ → List (List SourcePort) → List ℕ
classes_from k [] = []
classes_from k (c ∷ cs) = replicate (length c) k ++ classes_from (k + 1) cs

-- places are numbered over all classes from 1; place 0 is the principal port, a class by itself (this project's own choice)
abbrev pub shape_of : List (List ℕ) → SourceSymbol → Shape
shape_of types s = record {
  place = s.name.place;
  ports = port_of types s.port ∷ map (port_of types) (flat_map (λ c. c) s.classes);
  classes = 0 ∷ classes_from 1 s.classes;
  class_count = length s.classes;
}

-- .. without its places
abbrev pub bare_shape : SourceSymbol → Shape
bare_shape s = record { place = s.name.place; ports = []; classes = []; class_count = 0 }

abbrev pub type_names : Source → List (List ℕ)
type_names s = map (λ n. n.text) s.types

abbrev pub symbol_names : Source → List (List ℕ)
symbol_names s = map (λ d. d.name.text) s.symbols

-- the tables of a program
abbrev pub tables_of : Source → Tables
tables_of s = record { types = type_names s; names = symbol_names s; shapes = map (shape_of (type_names s)) s.symbols }

abbrev pub shapes_of : List (List ℕ) → Source → List Shape
shapes_of types s = map (shape_of types) s.symbols

-- the type of the port is declared
abbrev pub Knows : List (List ℕ) → SourcePort → Type 0
Knows types p = IsSome (number_in p.kind.text types)

-- the types of all its ports are declared
abbrev pub KnowsAll : List (List ℕ) → SourceSymbol → Type 0
KnowsAll types d = Knows types d.port × AllByRecursion (AllByRecursion (Knows types)) d.classes

-- the places of one class are added at the end
pub record AddsClass (types : List (List ℕ)) (number : ℕ) (class : List SourcePort) (old new : Shape) : Type 0 where
  pub ports : new.ports ≡ old.ports ++ map (port_of types) class
  pub classes : new.classes ≡ old.classes ++ replicate (length class) number
  pub others : (new.place ≡ old.place) × (new.class_count ≡ old.class_count)

-- a principal port, at most `max_ports` auxiliary ports, and a class for each
pub record IsShape (s : Shape) : Type 0 where
  pub some : 1 ≤ length s.ports
  pub few : length s.ports ≤ max_ports + 1
  pub classed : length s.classes ≡ length s.ports

abbrev pub AreShapes : List Shape → Type 0
AreShapes = AllByRecursion IsShape

-- ---- the results of the accessors

abbrev pub IsSymbol : Tables → ℕ → Type 0
IsSymbol t s = s < length t.names

-- the place where its name is declared
abbrev pub place_of : Tables → ℕ → Option Place
place_of t s = option_map (λ d. d.place) (slice_get t.shapes s)

-- places of the list, 0 to the arity
abbrev pub arity_in : Option Shape → ℕ
arity_in None = 0
arity_in (Some s) = length s.ports - 1

abbrev pub arity_of : Tables → ℕ → ℕ
arity_of t s = arity_in (slice_get t.shapes s)

abbrev pub port_in : Option Shape → ℕ → PortType
port_in None i = record { kind = 0; output = false }
port_in (Some s) i = slice_index_or s.ports i (record { kind = 0; output = false })

-- the type at a place
abbrev pub port_at : Tables → ℕ → ℕ → PortType
port_at t s i = port_in (slice_get t.shapes s) i

abbrev pub class_in : Option Shape → ℕ → ℕ
class_in None zero = 0
class_in None (suc i) = 1
class_in (Some s) i = slice_index_or s.classes i 1

-- the class of a place: the principal port is a class by itself
abbrev pub class_at : Tables → ℕ → ℕ → ℕ
class_at t s i = class_in (slice_get t.shapes s) i

abbrev pub classes_in : Option Shape → ℕ
classes_in None = 0
classes_in (Some s) = s.class_count

abbrev pub classes_of : Tables → ℕ → ℕ
classes_of t s = classes_in (slice_get t.shapes s)

-- a constructor's principal port is an output
abbrev pub is_constructor : Tables → ℕ → Bool
is_constructor t s = (port_at t s 0).output

-- one of the two is a constructor, the other a destructor
abbrev pub are_opposite : Bool → Bool → Bool
are_opposite true other = not other
are_opposite false other = other

-- Lafont 1990: two symbols match if one is a constructor, the other a destructor, and their principal types have one name
abbrev pub matching : Tables → ℕ → ℕ → Bool
matching t c d = nat_eq (port_at t c 0).kind (port_at t d 0).kind && are_opposite (is_constructor t c) (is_constructor t d)

abbrev pub symbol_numbered : Tables → List ℕ → Option SymbolNo
symbol_numbered t name = option_map (λ n. record { 0 = n }) (number_in name t.names)

-- ---- names before ( and [ are symbols

abbrev pub all_true : List Bool → Bool
all_true [] = true
all_true (b ∷ bs) = b && all_true bs

abbrev pub is_none : List Bool → Bool
is_none [] = true
is_none (b ∷ bs) = false

-- each name of the term that has arguments is a symbol's
abbrev pub heads_known : List (List ℕ) → Term → Bool
heads_known names = fold-Term Bool (λ f. (is_none f.args || is_some (number_in f.name.text names)) && all_true f.args)

abbrev pub HeadsKnown : List (List ℕ) → List Equation → Type 0
HeadsKnown names = AllByRecursion (λ e. (heads_known names e.left ≡ true) × (heads_known names e.right ≡ true))

-- the head's name is a symbol's, and so is each name of its terms that has arguments
abbrev pub IsHeadKnown : List (List ℕ) → Head → Type 0
IsHeadKnown names h = IsSome (number_in h.name.text names) × AllByRecursion (λ u. heads_known names u ≡ true) h.terms

-- the names of a rule's heads are symbols', and so are the names of its terms that have arguments
abbrev pub IsRuleKnown : List (List ℕ) → SourceRule → Type 0
IsRuleKnown names r = IsHeadKnown names r.first × IsHeadKnown names r.second × HeadsKnown names r.equations

-- the types of the free ends are declared
abbrev pub FreeKnown : List (List ℕ) → List SourceFree → Type 0
FreeKnown types = AllByRecursion (λ f. Knows types f.port)

-- the tables are the declarations of the program, whose names are declared
pub record IsTabled (source : Source) (t : Tables) : Type 0 where
  pub tables : t ≡ tables_of source
  pub heads : HeadsKnown t.names source.net.equations
  pub free : FreeKnown t.types source.net.free
  pub rules : AllByRecursion (IsRuleKnown t.names) source.rules

-- Ok exactly when the program has no fault of names, and then the tables are its declarations; a refusal is for the first fault
abbrev pub Tabulates : Source → Result Tables Fault → Type 0
Tabulates source (Ok t) = IsTabled source t × IsFaultless source
Tabulates source (Err (Refused r)) = IsFirstFault source r.code r.place × (r.other ≡ None)
Tabulates source (Err (Memory e)) = Unit {0}
