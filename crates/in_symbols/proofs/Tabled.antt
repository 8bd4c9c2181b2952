-- If no fault is found, the tables are the declarations.
use Rattle.std.proofs.Common.{◌≡◌, ℕ, List, [], ◌∷◌, map, Option, Some, None, nat_lt, Bool, true, false, if◌then◌else◌, refl, sym, ◌∙◌, ap}
use Rattle.std.specs.List.{AllByRecursion}
use Rattle.in_syntax.specs.declared.faults.Code.{Code}
use Rattle.in_syntax.specs.declared.faults.Code.TheVariants.{E04, E05, E06}
use Rattle.in_syntax.specs.declared.faults.Refusal.{Refusal}
use Rattle.in_syntax.specs.declared.places.Place.{Place}
use Rattle.in_syntax.specs.declared.tree.Name.{Name}
use Rattle.in_syntax.specs.declared.tree.Source.{Source}
use Rattle.in_symbols.specs.declared.declaring.Declared.{Declared}
use Rattle.in_symbols.specs.declared.symbols.Shape.{Shape}
use Rattle.in_symbols.specs.Faults.{IsFaultless}
use Rattle.in_syntax.specs.Refusals.{earlier, refused, earlier_refusal}
use Rattle.in_symbols.specs.Searching.{undeclared, declares_all, declares_all_free, untyped_in_symbols, untyped_in_free, unknown_in_rules, unknown_in_equations, first_fault}
use Rattle.in_symbols.specs.Tables.{Tables, IsTabled, KnowsAll, type_names, symbol_names, shapes_of}
use Rattle.in_symbols.proofs.First.{is_faultless}
use Rattle.in_syntax.proofs.Public.{earlier_none}
use Rattle.in_symbols.proofs.Repeated.{all_kept}
use Rattle.in_symbols.proofs.Unknown.{equations_known}
use Rattle.in_symbols.proofs.UnknownInRules.{rules_known}
use Rattle.in_symbols.proofs.Untyped.{symbols_known, free_known}

some_by : (r s : Refusal) (b : Bool) → let o : Option Refusal = None in (if b then Some s else Some r) ≡ o → ⊥
some_by r s true e = cc
some_by r s false e = cc

pub refusal_none : (a b : Option Refusal) → earlier_refusal a b ≡ None → (a ≡ None) × (b ≡ None)
refusal_none None b e = (refl, e)
refusal_none (Some r) None e = cc
refusal_none (Some r) (Some s) e = absurd (some_by r s (nat_lt s.place.from r.place.from) e)

pub refused_none : (c : Code) (o : Option Place) → refused c o ≡ None → o ≡ None
refused_none c None e = refl
refused_none c (Some p) e = cc

-- no fault is found in these declarations
pub record IsClear (s : Source) (types symbols : Declared) : Type 0 where
  pub types_once : types.repeat ≡ None
  pub symbols_once : symbols.repeat ≡ None
  pub ports : untyped_in_symbols types.names s.symbols ≡ None
  pub free : untyped_in_free types.names s.net.free ≡ None
  pub rules : unknown_in_rules symbols.names s.rules ≡ None
  pub heads : unknown_in_equations symbols.names s.net.equations ≡ None

pub is_clear : (s : Source) (types symbols : Declared) → None ≡ first_fault s types symbols → IsClear s types symbols
is_clear s types symbols is =
    let free = declares_all_free symbols.names undeclared (map (λ f. f.name) s.net.free) in
    let twice = earlier (earlier types.repeat symbols.repeat) free.repeat in
    let untyped = earlier (untyped_in_symbols types.names s.symbols) (untyped_in_free types.names s.net.free) in
    let unknown = earlier (unknown_in_rules symbols.names s.rules) (unknown_in_equations symbols.names s.net.equations) in
    let all = refusal_none (earlier_refusal (refused E04 twice) (refused E05 untyped)) (refused E06 unknown) (sym is) in
    let two = refusal_none (refused E04 twice) (refused E05 untyped) all.0 in
    let names = earlier_none (earlier types.repeat symbols.repeat) free.repeat (refused_none E04 twice two.0) in
    let declared = earlier_none types.repeat symbols.repeat names.0 in
    let known = earlier_none (unknown_in_rules symbols.names s.rules) (unknown_in_equations symbols.names s.net.equations) (refused_none E06 unknown all.1) in
    let kinds = earlier_none (untyped_in_symbols types.names s.symbols) (untyped_in_free types.names s.net.free) (refused_none E05 untyped two.1) in
    record { types_once = declared.0; symbols_once = declared.1; ports = kinds.0; free = kinds.1; rules = known.0; heads = known.1 }

kept : (ns : List Name) (d : Declared) → d ≡ declares_all undeclared ns → d.repeat ≡ None → d.names ≡ map (λ n. n.text) ns
kept ns d is e = ap (λ (x : Declared). x.names) is ∙ (all_kept ns undeclared (sym (ap (λ (x : Declared). x.repeat) is) ∙ e)).1

map_map : {X Y Z : Type 0} (f : X → Y) (g : Y → Z) (xs : List X) → map g (map f xs) ≡ map (λ x. g (f x)) xs
map_map f g [] = refl
map_map f g (x ∷ xs) = ap (λ z. g (f x) ∷ z) (map_map f g xs)

pub types_kept : (s : Source) (types symbols : Declared) → types ≡ declares_all undeclared s.types → IsClear s types symbols → types.names ≡ type_names s
types_kept s types symbols is clear = kept s.types types is clear.types_once

pub symbols_kept : (s : Source) (types symbols : Declared) → symbols ≡ declares_all undeclared (map (λ d. d.name) s.symbols) → IsClear s types symbols → symbols.names ≡ symbol_names s
symbols_kept s types symbols is clear = kept (map (λ d. d.name) s.symbols) symbols is clear.symbols_once ∙ map_map (λ d. d.name) (λ n. n.text) s.symbols

pub ports_known : (s : Source) (types symbols : Declared) → IsClear s types symbols → AllByRecursion (KnowsAll types.names) s.symbols
ports_known s types symbols clear = symbols_known types.names s.symbols clear.ports

tables_are : (s : Source) (types names : List (List ℕ)) (shapes : List Shape) → types ≡ type_names s → names ≡ symbol_names s → shapes ≡ shapes_of types s →
    let t : Tables = record { types = types; names = names; shapes = shapes } in
    t ≡ record { types = type_names s; names = symbol_names s; shapes = shapes_of (type_names s) s }
tables_are s types names shapes a b c =
    let d : shapes ≡ shapes_of (type_names s) s = c ∙ ap (λ ts. shapes_of ts s) a in cc

-- the tables that are made
pub is_tabled : (s : Source) (types symbols : Declared) (shapes : List Shape) → types ≡ declares_all undeclared s.types → symbols ≡ declares_all undeclared (map (λ d. d.name) s.symbols) →
    None ≡ first_fault s types symbols → shapes ≡ shapes_of types.names s →
    let t : Tables = record { types = types.names; names = symbols.names; shapes = shapes } in IsTabled s t × IsFaultless s
is_tabled s types symbols shapes a b is made =
    let clear = is_clear s types symbols is in (
      record {
        tables = tables_are s types.names symbols.names shapes (types_kept s types symbols a clear) (symbols_kept s types symbols b clear) made;
        heads = equations_known symbols.names s.net.equations clear.heads;
        free = free_known types.names s.net.free clear.free;
        rules = rules_known symbols.names s.rules clear.rules;
      },
      is_faultless s (ap (λ (d : Declared). first_fault s d (declares_all undeclared (map (λ k. k.name) s.symbols))) (sym a) ∙ ap (λ (d : Declared). first_fault s types d) (sym b) ∙ sym is),
    )
