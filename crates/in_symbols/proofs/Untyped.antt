-- The first place of an unknown type.
use Rattle.std.proofs.Common.{◌≡◌, ◌⊎◌, ℕ, Bool, true, false, List, Some, None, is_some, if◌then◌else◌, refl, inl, inr, ap, arith}
use Rattle.std.specs.List.{AllByRecursion}
use Rattle.in_syntax.specs.declared.places.Place.{Place}
use Rattle.in_syntax.specs.declared.tree.Source.{Source}
use Rattle.in_syntax.specs.declared.tree.SourceFree.{SourceFree}
use Rattle.in_syntax.specs.declared.tree.SourcePort.{SourcePort}
use Rattle.in_syntax.specs.declared.tree.SourceSymbol.{SourceSymbol}
use Rattle.in_base.specs.Lists.{AnyByRecursion}
use Rattle.in_symbols.specs.Faults.{IsTypeName, IsUntypedAt, IsUnknownTypeAt, of_principal, of_auxiliary, of_free}
use Rattle.in_symbols.specs.Names.{number_in}
use Rattle.in_syntax.specs.Refusals.{earlier}
use Rattle.in_symbols.specs.Searching.{untyped, untyped_in_class, untyped_in_symbol, untyped_in_symbols, untyped_in_free}
use Rattle.in_symbols.specs.Tables.{Knows, KnowsAll, FreeKnown}
use Rattle.in_syntax.proofs.Public.{IsLeast, least_same, least_earlier, least_earliest, least_of_all, earliest_none}
use Rattle.in_symbols.proofs.Named.{AreNamesOf, has_number, no_number, known_by}
use Rattle.in_base.proofs.Each.{any_of, any_either}

port_by : (s : Source) (types : List (List ℕ)) → AreNamesOf (IsTypeName s) types → (port : SourcePort) (b : Bool) → is_some (number_in port.kind.text types) ≡ b →
    IsLeast (λ q. IsUntypedAt s q port) (if b then None else Some port.kind.place)
port_by s types are port true is = λ q h. h.0 ((are port.kind.text).0 (has_number types port.kind.text is))
port_by s types are port false is = (((λ h. no_number types port.kind.text is ((are port.kind.text).1 h)), refl), λ q h. omega (arith, ap (λ (r : Place). r.from) h.1))

port_least : (s : Source) (types : List (List ℕ)) → AreNamesOf (IsTypeName s) types → (port : SourcePort) → IsLeast (λ q. IsUntypedAt s q port) (untyped types port)
port_least s types are port = port_by s types are port (is_some (number_in port.kind.text types)) refl

class_least : (s : Source) (types : List (List ℕ)) → AreNamesOf (IsTypeName s) types → (ps : List SourcePort) → IsLeast (λ q. AnyByRecursion (IsUntypedAt s q) ps) (untyped_in_class types ps)
class_least s types are ps = least_of_all (untyped types) (λ port q. IsUntypedAt s q port) (port_least s types are) ps

symbol_least : (s : Source) (types : List (List ℕ)) → AreNamesOf (IsTypeName s) types → (d : SourceSymbol) →
    IsLeast (λ q. IsUntypedAt s q d.port ⊎ AnyByRecursion (AnyByRecursion (IsUntypedAt s q)) d.classes) (untyped_in_symbol types d)
symbol_least s types are d =
    least_earliest (untyped_in_class types) (λ ps q. AnyByRecursion (IsUntypedAt s q) ps) (class_least s types are) (λ q. IsUntypedAt s q d.port) (untyped types d.port) (port_least s types are d.port) d.classes

abbrev InSymbols : Source → Place → Type 0
InSymbols s q = AnyByRecursion (λ d. IsUntypedAt s q d.port ⊎ AnyByRecursion (AnyByRecursion (IsUntypedAt s q)) d.classes) s.symbols

abbrev InFree : Source → Place → Type 0
InFree s q = AnyByRecursion (λ f. IsUntypedAt s q f.port) s.net.free

to_fault : (s : Source) (q : Place) → InSymbols s q ⊎ InFree s q → IsUnknownTypeAt s q
to_fault s q (inl h) =
    elim (any_either (λ d. IsUntypedAt s q d.port) (λ d. AnyByRecursion (AnyByRecursion (IsUntypedAt s q)) d.classes) s.symbols h) [ inl a ↦ of_principal a | inr b ↦ of_auxiliary b ]
to_fault s q (inr h) = of_free h

of_fault : (s : Source) (q : Place) → IsUnknownTypeAt s q → InSymbols s q ⊎ InFree s q
of_fault s q (of_principal h) = inl (any_of (λ d. IsUntypedAt s q d.port) (λ d. IsUntypedAt s q d.port ⊎ AnyByRecursion (AnyByRecursion (IsUntypedAt s q)) d.classes) (λ d a. inl a) s.symbols h)
of_fault s q (of_auxiliary h) =
    inl (any_of (λ d. AnyByRecursion (AnyByRecursion (IsUntypedAt s q)) d.classes) (λ d. IsUntypedAt s q d.port ⊎ AnyByRecursion (AnyByRecursion (IsUntypedAt s q)) d.classes) (λ d a. inr a) s.symbols h)
of_fault s q (of_free h) = inr h

pub untyped_least : (s : Source) (types : List (List ℕ)) → AreNamesOf (IsTypeName s) types → IsLeast (IsUnknownTypeAt s) (earlier (untyped_in_symbols types s.symbols) (untyped_in_free types s.net.free))
untyped_least s types are =
    least_same (λ q. InSymbols s q ⊎ InFree s q) (IsUnknownTypeAt s) (earlier (untyped_in_symbols types s.symbols) (untyped_in_free types s.net.free))
    (λ q h. to_fault s q h) (λ q h. of_fault s q h)
    (least_earlier (InSymbols s) (InFree s) (untyped_in_symbols types s.symbols) (untyped_in_free types s.net.free)
    (least_of_all (untyped_in_symbol types) (λ d q. IsUntypedAt s q d.port ⊎ AnyByRecursion (AnyByRecursion (IsUntypedAt s q)) d.classes) (symbol_least s types are) s.symbols)
    (least_of_all (λ f. untyped types f.port) (λ f q. IsUntypedAt s q f.port) (λ f. port_least s types are f.port) s.net.free))

-- ---- without an unknown type, each is declared

known : (types : List (List ℕ)) (port : SourcePort) → untyped types port ≡ None → Knows types port
known types port e = known_by (is_some (number_in port.kind.text types)) port.kind.place e

class_known : (types : List (List ℕ)) (ps : List SourcePort) → untyped_in_class types ps ≡ None → AllByRecursion (Knows types) ps
class_known types ps e = (earliest_none (untyped types) (Knows types) (known types) None ps e).1

symbol_known : (types : List (List ℕ)) (d : SourceSymbol) → untyped_in_symbol types d ≡ None → KnowsAll types d
symbol_known types d e =
    let both = earliest_none (untyped_in_class types) (AllByRecursion (Knows types)) (class_known types) (untyped types d.port) d.classes e in
    (known types d.port both.0, both.1)

pub symbols_known : (types : List (List ℕ)) (ds : List SourceSymbol) → untyped_in_symbols types ds ≡ None → AllByRecursion (KnowsAll types) ds
symbols_known types ds e = (earliest_none (untyped_in_symbol types) (KnowsAll types) (symbol_known types) None ds e).1

pub free_known : (types : List (List ℕ)) (fs : List SourceFree) → untyped_in_free types fs ≡ None → FreeKnown types fs
free_known types fs e = (earliest_none (λ f. untyped types f.port) (λ f. Knows types f.port) (λ f. known types f.port) None fs e).1
