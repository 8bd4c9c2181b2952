-- How a net is read from its text, term by term. No public contract names this.
use Rattle.std.specs.Prelude.{ℕ, zero, suc, ◌+◌, List, [], ◌∷◌, ◌++◌, length, map, Option, Some, None, unwrap_or, cond, is_some, false, if◌then◌else◌}
use Rattle.in_syntax.specs.declared.places.Place.{Place}
use Rattle.in_syntax.specs.declared.tree.Name.{Name}
use Rattle.in_syntax.specs.declared.tree.Term.{Term}
use Rattle.in_syntax.specs.declared.tree.Term.TheOpen.{Term-F}
use Rattle.in_syntax.specs.declared.tree.Term.TheFolds.{fold-Term}
use Rattle.in_syntax.specs.declared.tree.Equation.{Equation}
use Rattle.in_syntax.specs.declared.tree.SourceFree.{SourceFree}
use Rattle.in_syntax.specs.declared.symbol_no.SymbolNo.{SymbolNo}
use Rattle.in_net.specs.declared.reading.TextSpot.{TextSpot}
use Rattle.in_net.specs.declared.reading.TextSpot.TheVariants.{Port, Free, End, Occurrence}
use Rattle.in_net.specs.declared.reading.Reading.{Reading}
use Rattle.in_net.specs.declared.reading.NetReader.{NetReader}
use Rattle.in_net.specs.declared.reading.ReadTerm.{ReadTerm}
use Rattle.in_syntax.specs.Walks.{Visits}
use Rattle.in_symbols.specs.Names.{number_in}
use Rattle.in_symbols.specs.Tables.{Tables, arity_of}
use Rattle.in_net.specs.TextNet.{Body, LeftHead}

abbrev pub nothing_read : Reading
nothing_read = record { spots = []; agents = []; joints = []; names = [] }

-- the ports of an agent at a given number of places from a place on
abbrev pub ports_from : ℕ → Place → ℕ → ℕ → List TextSpot
ports_from agent at place zero = []
ports_from agent at place (suc n) = Port agent place at ∷ ports_from agent at (place + 1) n

abbrev pub with_agent : Reading → SymbolNo → ℕ → Place → Reading
with_agent r symbol arity place = record r {
  spots = r.spots ++ ports_from (length r.agents) place 0 (arity + 1);
  agents = r.agents ++ record { symbol = symbol; place = place; first = length r.spots } ∷ [];
}

-- a new name is added at the end
abbrev pub with_name : List (List ℕ) → List ℕ → List (List ℕ)
with_name names name = cond (is_some (number_in name names)) names (names ++ name ∷ [])

-- the number of a name, once it is added
abbrev pub number_with : List (List ℕ) → List ℕ → ℕ
number_with names name = unwrap_or (number_in name names) (length names)

abbrev pub with_occurrence : Reading → Name → Reading
with_occurrence r name = record r {
  spots = r.spots ++ Occurrence (number_with r.names name.text) name.place ∷ [];
  names = with_name r.names name.text;
}

-- two spots are joined at a place
abbrev pub with_joint : Reading → ℕ → ℕ → ℕ → Place → Reading
with_joint r one port other place = record r { joints = r.joints ++ record { one = one; port = port; other = other; place = place } ∷ [] }

-- ---- a term is read name by name, each agent before its arguments

-- how a term is read, with the place of its first token: the reading after it, and the number of its spot
pub record TermReader : Type 0 where
  pub place : Place
  pub reads : Reading → Reading × ℕ

-- each argument in turn: it is joined to the spot of its agent's place, at its first token
abbrev pub reads_arguments : ℕ → List TermReader → ℕ → Reading → Reading
reads_arguments first [] port r = r
reads_arguments first (a ∷ more) port r =
    let there = a.reads r in
    reads_arguments first more (port + 1) (with_joint there.0 first port there.1 a.place)

-- a symbol's name is an agent's; another name is a variable's or a free end's
abbrev pub with_named : Tables → Reading → Name → Option ℕ → Reading
with_named t r n None = with_occurrence r n
with_named t r n (Some s) = with_agent r (record { 0 = s }) (arity_of t s) n.place

-- the name, and then its arguments from port 1 on
abbrev pub reader_step : Tables → Term-F TermReader → TermReader
reader_step t f = record {
  place = f.name.place;
  reads = λ r. (reads_arguments (length r.spots) f.args 1 (with_named t r f.name (number_in f.name.text t.names)), length r.spots);
}

abbrev pub reader_of : Tables → Term → TermReader
reader_of t = fold-Term TermReader (reader_step t)

-- both terms, joined at the ~
abbrev pub reads_equation : Tables → Equation → Reading → Reading
reads_equation t e r =
    let left = (reader_of t e.left).reads r in
    let right = (reader_of t e.right).reads left.0 in
    with_joint right.0 left.1 0 right.1 e.tilde

abbrev pub reads_equations : Tables → List Equation → Reading → Reading
reads_equations t [] r = r
reads_equations t (e ∷ es) r = reads_equations t es (reads_equation t e r)

abbrev pub reads_free_end : ℕ → SourceFree → Reading → Reading
reads_free_end k f r = record r { spots = r.spots ++ Free k (number_with r.names f.name.text) ∷ []; names = with_name r.names f.name.text }

abbrev pub reads_free_from : ℕ → List SourceFree → Reading → Reading
reads_free_from k [] r = r
reads_free_from k (f ∷ fs) r = reads_free_from (k + 1) fs (reads_free_end k f r)

-- the free ends are the first spots, and their names the first names
abbrev pub reads_free : List SourceFree → Reading
reads_free fs = reads_free_from 0 fs nothing_read

-- a given number of boundary ends, from number k on
abbrev pub boundary_spots : ℕ → ℕ → List TextSpot
boundary_spots k zero = []
boundary_spots k (suc n) = End k ∷ boundary_spots (k + 1) n

abbrev pub with_ends : Reading → ℕ → Reading
with_ends r zero = r
with_ends r (suc n) = record r { spots = r.spots ++ boundary_spots (length r.spots) (suc n) }

-- the terms of each head in turn: each is joined to a boundary end, at its first token
abbrev pub reads_heads : Tables → List LeftHead → Reading → Reading
reads_heads t [] r = r
reads_heads t (h ∷ hs) r = reads_heads t hs (reads_arguments h.first (map (reader_of t) h.head.terms) 0 r)

-- the number of auxiliary places of a head's symbol
abbrev pub head_arity : Tables → LeftHead → ℕ
head_arity t h = arity_of t (unwrap_or (number_in h.head.name.text t.names) 0)

-- the boundary ends of all heads
abbrev pub ends_of : Tables → List LeftHead → ℕ
ends_of t [] = 0
ends_of t (h ∷ hs) = head_arity t h + ends_of t hs

-- the reading of a body
abbrev pub reading_of : Tables → Body → Reading
reading_of t b = reads_equations t b.equations (reads_heads t b.heads (with_ends (reads_free b.free) (ends_of t b.heads)))

-- ---- how a walk reads it

-- the reader with this reading
abbrev pub reads_on : NetReader → Reading → NetReader
reads_on n r = record n { reading = r }

-- an agent's first argument is at its place 1, a head's first term at its first boundary end
abbrev pub port_of : ReadTerm → ℕ → ℕ
port_of of number = if of.is_head then number else number + 1

abbrev pub read_at : ℕ → Place → ReadTerm
read_at spot at = record { spot = spot; place = at; is_head = false }

abbrev pub reading_names : Visits NetReader ReadTerm
reading_names = record {
  name = λ n name arguments. (reads_on n (with_named n.symbols.now n.reading name (number_in name.text n.symbols.now.names)), read_at (length n.reading.spots) name.place);
  argument = λ n of number argument. reads_on n (with_joint n.reading of.spot (port_of of number) argument.spot argument.place);
  equation = λ n left right tilde. reads_on n (with_joint n.reading left.spot 0 right.spot tilde);
}
