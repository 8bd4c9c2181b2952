-- The first place of a name before ( in a term that is no symbol's.
use Rattle.std.proofs.Common.{◌≡◌, ◌⊎◌, ℕ, zero, suc, ◌≤◌, Bool, true, false, ◌||◌, List, [], ◌∷◌, map, Option, Some, None, is_some, if◌then◌else◌, refl, sym, ◌∙◌, subst, inl, inr, ap, arith}
use Rattle.std.specs.List.{AllByRecursion}
use Rattle.in_syntax.specs.Sizes.{total, names_in}
use Rattle.in_syntax.specs.declared.places.Place.{Place}
use Rattle.in_syntax.specs.declared.tree.Equation.{Equation}
use Rattle.in_syntax.specs.declared.tree.Source.{Source}
use Rattle.in_syntax.specs.declared.tree.Term.{Term, out-Term}
use Rattle.in_base.specs.Lists.{AnyByRecursion}
use Rattle.in_symbols.specs.Faults.{IsSymbolName, HasPart, HasPartIn, itself, argument, IsUnknownHead}
use Rattle.in_symbols.specs.Names.{number_in}
use Rattle.in_syntax.specs.Refusals.{earlier, earliest}
use Rattle.in_symbols.specs.Searching.{is_empty, unknown_here, unknown_in_term, unknown_in_equation, unknown_in_equations}
use Rattle.in_symbols.specs.Tables.{is_none, all_true, heads_known, HeadsKnown}
use Rattle.in_symbols.proofs.Heads.{heads_out, unknown_out}
use Rattle.in_syntax.proofs.Public.{IsLeast, left, shift, shift_back, least_same, least_earlier, least_of_all, earlier_none, earliest_none}
use Rattle.in_syntax.proofs.Public.{names_out}
use Rattle.in_symbols.proofs.Named.{AreNamesOf, has_number, no_number}
use Rattle.in_base.proofs.Each.{any_of}
use Rattle.std.proofs.lemmas.Bool.{and_from}

-- ---- one term

here_by : (s : Source) (names : List (List ℕ)) → AreNamesOf (IsSymbolName s) names → (t : Term) (bare : Bool) → is_empty (out-Term t).args ≡ bare → (b : Bool) → is_some (number_in (out-Term t).name.text names) ≡ b →
    IsLeast (λ q. IsUnknownHead s q t) (if bare then None else (if b then None else Some (out-Term t).name.place))
here_by s names are t true bare b is = λ q h. h.arguments (empty (out-Term t).args bare)
  where
    empty : (ts : List Term) → is_empty ts ≡ true → ts ≡ []
    empty [] e = refl
    empty (a ∷ ts) e = cc
here_by s names are t false bare true is = λ q h. h.unknown ((are (out-Term t).name.text).0 (has_number names (out-Term t).name.text is))
here_by s names are t false bare false is = (
  record { unknown = λ h. no_number names (out-Term t).name.text is ((are (out-Term t).name.text).1 h); arguments = λ e. some (out-Term t).args bare e; place = refl },
  λ q h. omega (arith, ap (λ (r : Place). r.from) h.place),
)
  where
    some : (ts : List Term) → is_empty ts ≡ false → ts ≡ [] → ⊥
    some [] e f = cc
    some (a ∷ ts) e f = cc

here_least : (s : Source) (names : List (List ℕ)) → AreNamesOf (IsSymbolName s) names → (t : Term) → IsLeast (λ q. IsUnknownHead s q t) (unknown_here names (is_empty (out-Term t).args) (out-Term t).name)
here_least s names are t = here_by s names are t (is_empty (out-Term t).args) refl (is_some (number_in (out-Term t).name.text names)) refl

-- in the term itself, or in one of its arguments
part_of : (P : Term → Type 0) (t : Term) → HasPart P t → P t ⊎ AnyByRecursion (HasPart P) (out-Term t).args
part_of P t (itself u h) = inl h
part_of P t (argument u a among h) = inr (any_of (λ b. b ≡ a) (HasPart P) (λ b e. subst (HasPart P) (sym e) h) (out-Term u).args among)

one_part : (P : Term → Type 0) (t : Term) (ts : List Term) → ((a : Term) → AnyByRecursion (λ b. b ≡ a) ts → AnyByRecursion (λ b. b ≡ a) (out-Term t).args) → AnyByRecursion (HasPart P) ts → HasPart P t
one_part P t [] within h = absurd h
one_part P t (a ∷ ts) within (inl h) = argument t a (within a (inl refl)) h
one_part P t (a ∷ ts) within (inr h) = one_part P t ts (λ b k. within b (inr k)) h

as_part : (P : Term → Type 0) (t : Term) → P t ⊎ AnyByRecursion (HasPart P) (out-Term t).args → HasPart P t
as_part P t (inl h) = itself t h
as_part P t (inr h) = one_part P t (out-Term t).args (λ a k. k) h

pub empty_map : {X Y : Type 0} (f : X → Y) (xs : List X) → is_empty (map f xs) ≡ is_empty xs
empty_map f [] = refl
empty_map f (x ∷ xs) = refl

-- terms of at most h names
abbrev TermsLeast : Source → List (List ℕ) → ℕ → Type 0
TermsLeast s names h = (t : Term) → names_in t ≤ h → IsLeast (λ q. HasPart (IsUnknownHead s q) t) (unknown_in_term names t)

arguments_least : (s : Source) (names : List (List ℕ)) (h : ℕ) → TermsLeast s names h → (Q : Place → Type 0) (found : Option Place) → IsLeast Q found →
    (ts : List Term) → total (map names_in ts) ≤ h → IsLeast (λ q. Q q ⊎ AnyByRecursion (HasPart (IsUnknownHead s q)) ts) (earliest found (map (unknown_in_term names) ts))
arguments_least s names h ih Q found least [] short = least_same Q (λ q. Q q ⊎ ⊥) found (λ q k. inl k) (λ q k. left (Q q) k) least
arguments_least s names h ih Q found least (t ∷ ts) short =
    least_same (λ q. (Q q ⊎ HasPart (IsUnknownHead s q) t) ⊎ AnyByRecursion (HasPart (IsUnknownHead s q)) ts) (λ q. Q q ⊎ AnyByRecursion (HasPart (IsUnknownHead s q)) (t ∷ ts))
    (earliest (earlier found (unknown_in_term names t)) (map (unknown_in_term names) ts))
    (λ q k. shift (Q q) (HasPart (IsUnknownHead s q) t) (AnyByRecursion (HasPart (IsUnknownHead s q)) ts) k)
    (λ q k. shift_back (Q q) (HasPart (IsUnknownHead s q) t) (AnyByRecursion (HasPart (IsUnknownHead s q)) ts) k)
    (arguments_least s names h ih (λ q. Q q ⊎ HasPart (IsUnknownHead s q) t) (earlier found (unknown_in_term names t))
    (least_earlier Q (λ q. HasPart (IsUnknownHead s q) t) found (unknown_in_term names t) least (ih t (omega (arith, short)))) ts (omega (arith, short)))

terms_least : (s : Source) (names : List (List ℕ)) → AreNamesOf (IsSymbolName s) names → (h : ℕ) → TermsLeast s names h
terms_least s names are zero t short = absurd (omega (arith, names_out t, short))
terms_least s names are (suc h) t short =
    let all = arguments_least s names h (terms_least s names are h) (λ q. IsUnknownHead s q t) (unknown_here names (is_empty (out-Term t).args) (out-Term t).name) (here_least s names are t) (out-Term t).args (omega (arith, names_out t, short)) in
    subst (IsLeast (λ q. HasPart (IsUnknownHead s q) t))
    (ap (λ b. earliest (unknown_here names b (out-Term t).name) (map (unknown_in_term names) (out-Term t).args)) (sym (empty_map (unknown_in_term names) (out-Term t).args)) ∙ sym (unknown_out names t))
    (least_same (λ q. IsUnknownHead s q t ⊎ AnyByRecursion (HasPart (IsUnknownHead s q)) (out-Term t).args) (λ q. HasPart (IsUnknownHead s q) t)
    (earliest (unknown_here names (is_empty (out-Term t).args) (out-Term t).name) (map (unknown_in_term names) (out-Term t).args))
    (λ q k. as_part (IsUnknownHead s q) t k) (λ q k. part_of (IsUnknownHead s q) t k) all)

pub term_least : (s : Source) (names : List (List ℕ)) → AreNamesOf (IsSymbolName s) names → (t : Term) → IsLeast (λ q. HasPart (IsUnknownHead s q) t) (unknown_in_term names t)
term_least s names are t = terms_least s names are (names_in t) t (omega arith)

equation_least : (s : Source) (names : List (List ℕ)) → AreNamesOf (IsSymbolName s) names → (e : Equation) →
    IsLeast (λ q. HasPart (IsUnknownHead s q) e.left ⊎ HasPart (IsUnknownHead s q) e.right) (unknown_in_equation names e)
equation_least s names are e =
    least_earlier (λ q. HasPart (IsUnknownHead s q) e.left) (λ q. HasPart (IsUnknownHead s q) e.right) (unknown_in_term names e.left) (unknown_in_term names e.right)
    (term_least s names are e.left) (term_least s names are e.right)

abbrev pub IsUnknownInEquations : Source → List Equation → Place → Type 0
IsUnknownInEquations s es q = HasPartIn (IsUnknownHead s q) es

pub equations_least : (s : Source) (names : List (List ℕ)) → AreNamesOf (IsSymbolName s) names → (es : List Equation) → IsLeast (IsUnknownInEquations s es) (unknown_in_equations names es)
equations_least s names are es =
    least_of_all (unknown_in_equation names) (λ e q. HasPart (IsUnknownHead s q) e.left ⊎ HasPart (IsUnknownHead s q) e.right) (equation_least s names are) es

-- ---- without an unknown name, each is a symbol's

here_known : (bare b : Bool) (p : Place) → let o : Option Place = None in (if bare then None else (if b then None else Some p)) ≡ o → (bare || b) ≡ true
here_known true b p e = refl
here_known false true p e = refl
here_known false false p e = cc

none_empty : {X Y : Type 0} (f : X → Bool) (g : X → Y) (xs : List X) → is_none (map f xs) ≡ is_empty (map g xs)
none_empty f g [] = refl
none_empty f g (x ∷ xs) = refl

all_known : (names : List (List ℕ)) (ts : List Term) → AllByRecursion (λ t. heads_known names t ≡ true) ts → all_true (map (heads_known names) ts) ≡ true
all_known names [] h = refl
all_known names (t ∷ ts) h = and_from (heads_known names t) (all_true (map (heads_known names) ts)) h.0 (all_known names ts h.1)

abbrev TermsKnown : List (List ℕ) → ℕ → Type 0
TermsKnown names h = (t : Term) → names_in t ≤ h → unknown_in_term names t ≡ None → heads_known names t ≡ true

arguments_known : (names : List (List ℕ)) (h : ℕ) → TermsKnown names h → (found : Option Place) (ts : List Term) → total (map names_in ts) ≤ h →
    earliest found (map (unknown_in_term names) ts) ≡ None → (found ≡ None) × AllByRecursion (λ t. heads_known names t ≡ true) ts
arguments_known names h ih found [] short e = (e, tt)
arguments_known names h ih found (t ∷ ts) short e =
    let rest = arguments_known names h ih (earlier found (unknown_in_term names t)) ts (omega (arith, short)) e in
    let both = earlier_none found (unknown_in_term names t) rest.0 in
    (both.0, (ih t (omega (arith, short)) both.1, rest.1))

terms_known : (names : List (List ℕ)) (h : ℕ) → TermsKnown names h
terms_known names zero t short e = absurd (omega (arith, names_out t, short))
terms_known names (suc h) t short e =
    let all = arguments_known names h (terms_known names h) (unknown_here names (is_empty (map (unknown_in_term names) (out-Term t).args)) (out-Term t).name) (out-Term t).args (omega (arith, names_out t, short)) (sym (unknown_out names t) ∙ e) in
    let here = here_known (is_empty (map (unknown_in_term names) (out-Term t).args)) (is_some (number_in (out-Term t).name.text names)) (out-Term t).name.place all.0 in
    heads_out names t
    ∙ and_from (is_none (map (heads_known names) (out-Term t).args) || is_some (number_in (out-Term t).name.text names)) (all_true (map (heads_known names) (out-Term t).args))
    (ap (λ b. b || is_some (number_in (out-Term t).name.text names)) (none_empty (heads_known names) (unknown_in_term names) (out-Term t).args) ∙ here)
    (all_known names (out-Term t).args all.1)

pub term_known : (names : List (List ℕ)) (t : Term) → unknown_in_term names t ≡ None → heads_known names t ≡ true
term_known names t e = terms_known names (names_in t) t (omega arith) e

equation_known : (names : List (List ℕ)) (e : Equation) → unknown_in_equation names e ≡ None → (heads_known names e.left ≡ true) × (heads_known names e.right ≡ true)
equation_known names e is =
    let both = earlier_none (unknown_in_term names e.left) (unknown_in_term names e.right) is in
    (term_known names e.left both.0, term_known names e.right both.1)

pub equations_known : (names : List (List ℕ)) (es : List Equation) → unknown_in_equations names es ≡ None → HeadsKnown names es
equations_known names es is = (earliest_none (unknown_in_equation names) (λ e. (heads_known names e.left ≡ true) × (heads_known names e.right ≡ true)) (equation_known names) None es is).1
