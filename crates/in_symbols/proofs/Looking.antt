-- The result of a walk that looks up names: the earliest place of one that is unknown.
use Rattle.std.proofs.Common.{◌≡◌, ◌+◌, ℕ, List, [], ◌∷◌, map, length, Option, Some, None, refl, sym, ap, ◌∙◌, nat_eq}
use Rattle.std.proofs.lemmas.Bool.{ne_eqb}
use Rattle.std.specs.Prelude.{⊤, suc}
use Rattle.std.specs.List.{AllByRecursion}
use Rattle.in_syntax.specs.declared.places.Place.{Place}
use Rattle.in_syntax.specs.declared.tree.Equation.{Equation}
use Rattle.in_syntax.specs.declared.tree.Term.{Term, out-Term}
use Rattle.in_syntax.specs.Refusals.{earlier, earliest}
use Rattle.in_syntax.specs.Walks.{walks_from, walks_term, walks_terms, walks_equations}
use Rattle.in_syntax.proofs.Public.{term_by_arguments, terms_by_arguments, walk_out}
use Rattle.in_symbols.specs.declared.searching.Lookup.{Lookup}
use Rattle.in_symbols.specs.Searching.{is_empty, unknown_here, unknown_in_term, unknown_in_equation, unknown_in_equations, finds, looking}
use Rattle.in_symbols.proofs.Heads.{unknown_out}
use Rattle.in_symbols.proofs.Searches.{earlier_assoc, earliest_from}
use Rattle.in_symbols.proofs.Unknown.{empty_map}

pub finds_two : (u : Lookup) (a b : Option Place) → finds (finds u a) b ≡ finds u (earlier a b)
finds_two u a b = ap (λ o. let r : Lookup = record u { found = o } in r) (earlier_assoc u.found a b)

none_there : {X : Type 0} (xs : List X) → nat_eq (length xs) 0 ≡ is_empty xs
none_there [] = refl
none_there (x ∷ xs) = ne_eqb (suc (length xs)) 0 (λ e. cc)

abbrev IsLooked : Term → Type 0
IsLooked t = (u : Lookup) → walks_term looking t u ≡ (finds u (unknown_in_term u.symbols.now t), tt)

from_looked : (ts : List Term) → AllByRecursion IsLooked ts → (k : ℕ) (u : Lookup) (here : Option Place) →
    walks_from looking tt k (map (walks_term looking) ts) (finds u here) ≡ finds u (earliest here (map (unknown_in_term u.symbols.now) ts))
from_looked [] all k u here = refl
from_looked (t ∷ ts) all k u here =
    let there = unknown_in_term u.symbols.now t in
    ap (λ (w : Lookup × ⊤). walks_from looking tt (k + 1) (map (walks_term looking) ts) w.0) (all.0 (finds u here))
    ∙ ap (walks_from looking tt (k + 1) (map (walks_term looking) ts)) (finds_two u here there)
    ∙ from_looked ts all.1 (k + 1) u (earlier here there)

of_arguments : (t : Term) → AllByRecursion IsLooked (out-Term t).args → IsLooked t
of_arguments t all u =
    let args = (out-Term t).args in
    let name = (out-Term t).name in
    let names = u.symbols.now in
    let bare : nat_eq (length args) 0 ≡ is_empty (map (unknown_in_term names) args) = none_there args ∙ sym (empty_map (unknown_in_term names) args) in
    walk_out looking t u
    ∙ ap (λ (w : Lookup). (w, tt))
    (from_looked args all 0 u (unknown_here names (nat_eq (length args) 0) name)
    ∙ ap (λ b. finds u (earliest (unknown_here names b name) (map (unknown_in_term names) args))) bare
    ∙ ap (finds u) (sym (unknown_out names t)))

pub term_looked : (t : Term) → IsLooked t
term_looked = term_by_arguments IsLooked of_arguments

pub terms_looked : (ts : List Term) (u : Lookup) (here : Option Place) → walks_terms looking tt ts (finds u here) ≡ finds u (earliest here (map (unknown_in_term u.symbols.now) ts))
terms_looked ts u here = from_looked ts (terms_by_arguments IsLooked of_arguments ts) 0 u here

equations_from : (es : List Equation) (u : Lookup) (here : Option Place) → walks_equations looking es (finds u here) ≡ finds u (earliest here (map (unknown_in_equation u.symbols.now) es))
equations_from [] u here = refl
equations_from (e ∷ es) u here =
    let left = unknown_in_term u.symbols.now e.left in
    let right = unknown_in_term u.symbols.now e.right in
    ap (λ (w : Lookup × ⊤). walks_equations looking es (walks_term looking e.right w.0).0) (term_looked e.left (finds u here))
    ∙ ap (λ (w : Lookup × ⊤). walks_equations looking es w.0) (term_looked e.right (finds (finds u here) left))
    ∙ ap (walks_equations looking es) (finds_two (finds u here) left right ∙ finds_two u here (earlier left right))
    ∙ equations_from es u (earlier here (earlier left right))

nothing_yet : (o : Option Place) → earlier o None ≡ o
nothing_yet None = refl
nothing_yet (Some p) = refl

pub nothing_found : (u : Lookup) → finds u None ≡ u
nothing_found u = ap (λ o. let r : Lookup = record u { found = o } in r) (nothing_yet u.found)

pub equations_looked : (es : List Equation) (u : Lookup) → walks_equations looking es u ≡ finds u (unknown_in_equations u.symbols.now es)
equations_looked es u = ap (walks_equations looking es) (sym (nothing_found u)) ∙ equations_from es u None

-- the earliest of a place found before and the places of a list is the earlier of it and the list's earliest
pub found_before : (o : Option Place) (ps : List (Option Place)) → earliest o ps ≡ earlier o (earliest None ps)
found_before o ps = ap (λ p. earliest p ps) (sym (nothing_yet o)) ∙ earliest_from o None ps
