-- The code's search for the first fault: its finding after each name, port and term.
use Rattle.std.specs.Prelude.{ℕ, Bool, true, false, List, [], ◌∷◌, ◌++◌, map, Option, Some, None, is_some, if◌then◌else◌, nat_eq, ⊤}
use Rattle.in_syntax.specs.declared.faults.Code.TheVariants.{E04, E05, E06}
use Rattle.in_syntax.specs.declared.faults.Refusal.{Refusal}
use Rattle.in_syntax.specs.declared.places.Place.{Place}
use Rattle.in_syntax.specs.declared.tree.Equation.{Equation}
use Rattle.in_syntax.specs.declared.tree.Head.{Head}
use Rattle.in_syntax.specs.declared.tree.Name.{Name}
use Rattle.in_syntax.specs.declared.tree.Source.{Source}
use Rattle.in_syntax.specs.declared.tree.SourceFree.{SourceFree}
use Rattle.in_syntax.specs.declared.tree.SourcePort.{SourcePort}
use Rattle.in_syntax.specs.declared.tree.SourceRule.{SourceRule}
use Rattle.in_syntax.specs.declared.tree.SourceSymbol.{SourceSymbol}
use Rattle.in_syntax.specs.declared.tree.Term.{Term}
use Rattle.in_syntax.specs.declared.tree.Term.TheFolds.{fold-Term}
use Rattle.in_syntax.specs.Walks.{Visits}
use Rattle.in_symbols.specs.declared.declaring.Declared.{Declared}
use Rattle.in_symbols.specs.declared.searching.Lookup.{Lookup}
use Rattle.in_syntax.specs.Refusals.{earlier, earliest, refused, earlier_refusal}
use Rattle.in_symbols.specs.Names.{number_in, has_name}

-- ---- declared twice

abbrev pub undeclared : Declared
undeclared = record { names = []; repeat = None }

abbrev pub repeats : Declared → Name → Declared
repeats d n = record { names = d.names; repeat = earlier d.repeat (Some n.place) }

-- one more name is declared
abbrev pub declares : Declared → Name → Declared
declares d n = if has_name n.text d.names then repeats d n else record { names = d.names ++ n.text ∷ []; repeat = d.repeat }

abbrev pub declares_all : Declared → List Name → Declared
declares_all d [] = d
declares_all d (n ∷ ns) = declares_all (declares d n) ns

-- one more free name, among symbols of these names
abbrev pub declares_free : List (List ℕ) → Declared → Name → Declared
declares_free symbols d n = if is_some (number_in n.text symbols) then repeats d n else declares d n

abbrev pub declares_all_free : List (List ℕ) → Declared → List Name → Declared
declares_all_free symbols d [] = d
declares_all_free symbols d (n ∷ ns) = declares_all_free symbols (declares_free symbols d n) ns

-- ---- unknown types

abbrev pub untyped : List (List ℕ) → SourcePort → Option Place
untyped types p = if is_some (number_in p.kind.text types) then None else Some p.kind.place

abbrev pub untyped_in_class : List (List ℕ) → List SourcePort → Option Place
untyped_in_class types ps = earliest None (map (untyped types) ps)

abbrev pub untyped_in_symbol : List (List ℕ) → SourceSymbol → Option Place
untyped_in_symbol types d = earliest (untyped types d.port) (map (untyped_in_class types) d.classes)

abbrev pub untyped_in_symbols : List (List ℕ) → List SourceSymbol → Option Place
untyped_in_symbols types ds = earliest None (map (untyped_in_symbol types) ds)

abbrev pub untyped_in_free : List (List ℕ) → List SourceFree → Option Place
untyped_in_free types fs = earliest None (map (λ f. untyped types f.port) fs)

-- ---- names before ( and [

abbrev pub is_empty : {X : Type 0} → List X → Bool
is_empty [] = true
is_empty (x ∷ xs) = false

abbrev pub unknown_name : List (List ℕ) → Name → Option Place
unknown_name names n = if is_some (number_in n.text names) then None else Some n.place

abbrev pub unknown_here : List (List ℕ) → Bool → Name → Option Place
unknown_here names bare n = if bare then None else unknown_name names n

abbrev pub unknown_in_term : List (List ℕ) → Term → Option Place
unknown_in_term names = fold-Term (Option Place) (λ f. earliest (unknown_here names (is_empty f.args) f.name) f.args)

abbrev pub unknown_in_equation : List (List ℕ) → Equation → Option Place
unknown_in_equation names e = earlier (unknown_in_term names e.left) (unknown_in_term names e.right)

abbrev pub unknown_in_equations : List (List ℕ) → List Equation → Option Place
unknown_in_equations names es = earliest None (map (unknown_in_equation names) es)

abbrev pub unknown_in_head : List (List ℕ) → Head → Option Place
unknown_in_head names h = earliest (unknown_name names h.name) (map (unknown_in_term names) h.terms)

abbrev pub unknown_in_rule : List (List ℕ) → SourceRule → Option Place
unknown_in_rule names r = earlier (earlier (unknown_in_head names r.first) (unknown_in_head names r.second)) (unknown_in_equations names r.equations)

abbrev pub unknown_in_rules : List (List ℕ) → List SourceRule → Option Place
unknown_in_rules names rs = earliest None (map (unknown_in_rule names) rs)

-- the first place of an unknown name in the rules and in the net
abbrev pub unknown_in : List (List ℕ) → Source → Option Place
unknown_in names s = earlier (unknown_in_rules names s.rules) (unknown_in_equations names s.net.equations)

-- the search, if this place is met
abbrev pub finds : Lookup → Option Place → Lookup
finds l here = record l { found = earlier l.found here }

-- a walk looks up each name that has arguments
abbrev pub looking : Visits Lookup ⊤
looking = record {
  name = λ u n arguments. (finds u (unknown_here u.symbols.now (nat_eq arguments 0) n), tt);
  argument = λ u of number argument. u;
  equation = λ u left right tilde. u;
}

-- ---- the first fault

-- the first fault, if these types and symbols were declared
abbrev pub first_fault : Source → Declared → Declared → Option Refusal
first_fault s types symbols =
    let free = declares_all_free symbols.names undeclared (map (λ f. f.name) s.net.free) in
    let twice = earlier (earlier types.repeat symbols.repeat) free.repeat in
    let untyped = earlier (untyped_in_symbols types.names s.symbols) (untyped_in_free types.names s.net.free) in
    earlier_refusal (earlier_refusal (refused E04 twice) (refused E05 untyped)) (refused E06 (unknown_in symbols.names s))
