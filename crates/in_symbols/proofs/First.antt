-- The first fault of all, from the first of each code.
use Rattle.std.proofs.Common.{◌≡◌, ◌⊎◌, ℕ, List, map, Option, Some, None, refl, sym, ◌∙◌, subst, inl, inr, ap, arith}
use Rattle.in_syntax.specs.declared.faults.Code.{Code}
use Rattle.in_syntax.specs.declared.faults.Code.TheVariants.{E04, E05, E06}
use Rattle.in_syntax.specs.declared.faults.Refusal.{Refusal}
use Rattle.in_syntax.specs.declared.places.Place.{Place}
use Rattle.in_syntax.specs.declared.tree.Name.{Name}
use Rattle.in_syntax.specs.declared.tree.Source.{Source}
use Rattle.in_symbols.specs.declared.declaring.Declared.{Declared}
use Rattle.in_base.specs.Lists.{AnyByRecursion}
use Rattle.in_symbols.specs.Faults.{IsTypeName, IsSymbolName, IsRepeatedAt, IsDeclaredTwiceAt, type_twice, symbol_twice, free_twice, free_symbol, IsUnknownTypeAt, IsUnknownHeadAt, IsFaultAt, declared_twice, unknown_type, unknown_symbol, IsFirstFault, IsFaultless}
use Rattle.in_syntax.specs.Refusals.{earlier, refused, earlier_refusal}
use Rattle.in_symbols.specs.Searching.{undeclared, declares_all, declares_all_free, untyped_in_symbols, untyped_in_free, unknown_in_rules, unknown_in_equations, first_fault}
use Rattle.in_syntax.proofs.Public.{IsLeast, least_same, least_earlier, IsFirst, Of, first_same, first_of_three, first_as}
use Rattle.in_symbols.proofs.Named.{IsIn, AreNamesOf}
use Rattle.in_symbols.proofs.Repeated.{all_names, repeats_least, free_least}
use Rattle.in_symbols.proofs.UnknownInRules.{unknown_least}
use Rattle.in_symbols.proofs.Untyped.{untyped_least}
use Rattle.in_base.proofs.Each.{any_of, any_mapped, any_to_map}

abbrev Coded : Source → Code → Place → Type 0
Coded s c q = (Of E04 (IsDeclaredTwiceAt s) c q ⊎ Of E05 (IsUnknownTypeAt s) c q) ⊎ Of E06 (IsUnknownHeadAt s) c q

as_fault : (s : Source) (c : Code) (q : Place) → Coded s c q → IsFaultAt s c q
as_fault s c q (inl (inl h)) = subst (λ k. IsFaultAt s k q) (sym h.0) (declared_twice q h.1)
as_fault s c q (inl (inr h)) = subst (λ k. IsFaultAt s k q) (sym h.0) (unknown_type q h.1)
as_fault s c q (inr h) = subst (λ k. IsFaultAt s k q) (sym h.0) (unknown_symbol q h.1)

of_fault : (s : Source) (c : Code) (q : Place) → IsFaultAt s c q → Coded s c q
of_fault s _ _ (declared_twice q h) = inl (inl (refl, h))
of_fault s _ _ (unknown_type q h) = inl (inr (refl, h))
of_fault s _ _ (unknown_symbol q h) = inr (refl, h)

first_of : (s : Source) (twice untyped unknown : Option Place) → IsLeast (IsDeclaredTwiceAt s) twice → IsLeast (IsUnknownTypeAt s) untyped → IsLeast (IsUnknownHeadAt s) unknown →
    IsFirst (IsFaultAt s) (earlier_refusal (earlier_refusal (refused E04 twice) (refused E05 untyped)) (refused E06 unknown))
first_of s twice untyped unknown a b c =
    first_same (Coded s) (IsFaultAt s) _ (as_fault s) (of_fault s)
    (first_of_three E04 E05 E06 (IsDeclaredTwiceAt s) (IsUnknownTypeAt s) (IsUnknownHeadAt s) (omega arith) (omega arith) twice untyped unknown a b c)

-- ---- of a program

none_before : (A : Type 0) → ⊥ ⊎ A → A
none_before A (inl h) = absurd h
none_before A (inr a) = a

pub are_types : (s : Source) → AreNamesOf (IsTypeName s) (declares_all undeclared s.types).names
are_types s m = ((λ h. none_before (IsTypeName s m) ((all_names s.types undeclared m).0 h)), λ h. (all_names s.types undeclared m).1 (inr h))

abbrev symbol_declared : Source → List Name
symbol_declared s = map (λ d. d.name) s.symbols

pub are_symbols : (s : Source) → AreNamesOf (IsSymbolName s) (declares_all undeclared (map (λ d. d.name) s.symbols)).names
are_symbols s m = (
  (λ h. any_mapped (λ d. d.name) (λ n. n.text ≡ m) s.symbols (none_before (AnyByRecursion (λ n. n.text ≡ m) (symbol_declared s)) ((all_names (symbol_declared s) undeclared m).0 h))),
  λ h. (all_names (symbol_declared s) undeclared m).1 (inr (any_to_map (λ d. d.name) (λ n. n.text ≡ m) s.symbols h)),
)

abbrev Twice : Source → List (List ℕ) → Place → Type 0
Twice s symbols q = (IsRepeatedAt s.types q ⊎ IsRepeatedAt (map (λ d. d.name) s.symbols) q)
    ⊎ (AnyByRecursion (λ m. IsIn symbols m.text × (m.place ≡ q)) (map (λ f. f.name) s.net.free) ⊎ IsRepeatedAt (map (λ f. f.name) s.net.free) q)

as_twice : (s : Source) (symbols : List (List ℕ)) → AreNamesOf (IsSymbolName s) symbols → (q : Place) → Twice s symbols q → IsDeclaredTwiceAt s q
as_twice s symbols are q (inl (inl h)) = type_twice h
as_twice s symbols are q (inl (inr h)) = symbol_twice h
as_twice s symbols are q (inr (inl h)) =
    free_symbol (any_of (λ f. IsIn symbols f.name.text × (f.name.place ≡ q)) (λ f. IsSymbolName s f.name.text × (f.name.place ≡ q)) (λ f a. ((are f.name.text).0 a.0, a.1)) s.net.free
    (any_mapped (λ f. f.name) (λ m. IsIn symbols m.text × (m.place ≡ q)) s.net.free h))
as_twice s symbols are q (inr (inr h)) = free_twice h

of_twice : (s : Source) (symbols : List (List ℕ)) → AreNamesOf (IsSymbolName s) symbols → (q : Place) → IsDeclaredTwiceAt s q → Twice s symbols q
of_twice s symbols are q (type_twice h) = inl (inl h)
of_twice s symbols are q (symbol_twice h) = inl (inr h)
of_twice s symbols are q (free_twice h) = inr (inr h)
of_twice s symbols are q (free_symbol h) =
    inr (inl (any_to_map (λ f. f.name) (λ m. IsIn symbols m.text × (m.place ≡ q)) s.net.free
    (any_of (λ f. IsSymbolName s f.name.text × (f.name.place ≡ q)) (λ f. IsIn symbols f.name.text × (f.name.place ≡ q)) (λ f a. ((are f.name.text).1 a.0, a.1)) s.net.free h)))

twice_least : (s : Source) (symbols : List (List ℕ)) → AreNamesOf (IsSymbolName s) symbols →
    IsLeast (IsDeclaredTwiceAt s) (earlier (earlier (declares_all undeclared s.types).repeat (declares_all undeclared (map (λ d. d.name) s.symbols)).repeat) (declares_all_free symbols undeclared (map (λ f. f.name) s.net.free)).repeat)
twice_least s symbols are =
    let types = (declares_all undeclared s.types).repeat in
    let names = (declares_all undeclared (map (λ d. d.name) s.symbols)).repeat in
    let free = (declares_all_free symbols undeclared (map (λ f. f.name) s.net.free)).repeat in
    least_same (Twice s symbols) (IsDeclaredTwiceAt s) (earlier (earlier types names) free) (as_twice s symbols are) (of_twice s symbols are)
    (least_earlier (λ q. IsRepeatedAt s.types q ⊎ IsRepeatedAt (map (λ d. d.name) s.symbols) q)
    (λ q. AnyByRecursion (λ m. IsIn symbols m.text × (m.place ≡ q)) (map (λ f. f.name) s.net.free) ⊎ IsRepeatedAt (map (λ f. f.name) s.net.free) q) (earlier types names) free
    (least_earlier (IsRepeatedAt s.types) (IsRepeatedAt (map (λ d. d.name) s.symbols)) types names (repeats_least s.types) (repeats_least (map (λ d. d.name) s.symbols)))
    (free_least symbols (map (λ f. f.name) s.net.free)))

-- the code finds the first fault
pub found_first : (s : Source) → IsFirst (IsFaultAt s) (first_fault s (declares_all undeclared s.types) (declares_all undeclared (map (λ d. d.name) s.symbols)))
found_first s =
    let types = declares_all undeclared s.types in
    let symbols = declares_all undeclared (map (λ d. d.name) s.symbols) in
    first_of s (earlier (earlier types.repeat symbols.repeat) (declares_all_free symbols.names undeclared (map (λ f. f.name) s.net.free)).repeat)
    (earlier (untyped_in_symbols types.names s.symbols) (untyped_in_free types.names s.net.free))
    (earlier (unknown_in_rules symbols.names s.rules) (unknown_in_equations symbols.names s.net.equations))
    (twice_least s symbols.names (are_symbols s)) (untyped_least s types.names (are_types s)) (unknown_least s symbols.names (are_symbols s))

-- a fault that is found is the first one
pub is_first : (s : Source) (types symbols : Declared) (r : Refusal) → types ≡ declares_all undeclared s.types → symbols ≡ declares_all undeclared (map (λ d. d.name) s.symbols) →
    Some r ≡ first_fault s types symbols → IsFirstFault s r.code r.place × (let nothing : Option Place = None in r.other ≡ nothing)
is_first s types symbols r a b is =
    first_as (IsFaultAt s) (first_fault s (declares_all undeclared s.types) (declares_all undeclared (map (λ d. d.name) s.symbols))) r (found_first s)
    (ap (λ (d : Declared). first_fault s d (declares_all undeclared (map (λ k. k.name) s.symbols))) (sym a) ∙ ap (λ (d : Declared). first_fault s types d) (sym b) ∙ sym is)

-- if none is found, there is none
pub is_faultless : (s : Source) → first_fault s (declares_all undeclared s.types) (declares_all undeclared (map (λ d. d.name) s.symbols)) ≡ None → IsFaultless s
is_faultless s is = subst (IsFirst (IsFaultAt s)) is (found_first s)
