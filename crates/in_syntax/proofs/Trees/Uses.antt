-- The uses of names in a term, as a walk over it lists them.
use Rattle.std.proofs.Common.{◌≡◌, ℕ, List, [], ◌∷◌, ◌++◌, false, map, length, sym, ap, ◌∙◌, append_assoc, append-nil, ◌+◌, true}
use Rattle.std.specs.Prelude.{⊤}
use Rattle.std.proofs.lemmas.List.{length-map}
use Rattle.std.proofs.lemmas.List.Folds.{flat_map-map}
use Rattle.std.specs.List.{flat_map, AllByRecursion}
use Rattle.in_syntax.specs.declared.tree.Equation.{Equation}
use Rattle.in_syntax.specs.declared.tree.Head.{Head}
use Rattle.in_syntax.specs.declared.tree.Term.{Term, out-Term}
use Rattle.in_syntax.specs.declared.tree.Term.TheFolds.{fold_out-Term}
use Rattle.in_syntax.specs.declared.uses.Listed.{Listed}
use Rattle.in_syntax.specs.declared.uses.NameUse.{NameUse}
use Rattle.in_syntax.specs.Uses.{use_of, uses_of_term, uses_of_head, uses_of_equation, lists, listing}
use Rattle.in_syntax.specs.Walks.{walks_from, walks_term, walks_terms, walks_equations}
use Rattle.in_syntax.proofs.Trees.Terms.{term_by_arguments, terms_by_arguments}
use Rattle.in_syntax.proofs.Trees.Walks.{walk_out}

-- a term by its name and its arguments
uses_out : (u : Term) → uses_of_term u ≡ use_of (out-Term u).name (length (out-Term u).args) false ∷ flat_map uses_of_term (out-Term u).args
uses_out u =
    let args = (out-Term u).args in
    let name = (out-Term u).name in
    fold_out-Term (List NameUse) (λ f. use_of f.name (length f.args) false ∷ flat_map (λ uses. uses) f.args) u
    ∙ ap (λ n. use_of name n false ∷ flat_map (λ uses. uses) (map uses_of_term args)) (length-map args uses_of_term)
    ∙ ap (λ z. use_of name (length args) false ∷ z) (flat_map-map (λ (uses : List NameUse). uses) uses_of_term args)

-- one more, and then others
lists_more : (l : Listed) (one more : List NameUse) → lists (lists l one) more ≡ lists l (one ++ more)
lists_more l one more = ap (λ uses. let r : Listed = record { uses = uses } in r) (append_assoc l.uses one more)

abbrev IsListed : Term → Type 0
IsListed u = (l : Listed) → walks_term listing u l ≡ (lists l (uses_of_term u), tt)

from_listed : (ts : List Term) → AllByRecursion IsListed ts → (k : ℕ) (l : Listed) → walks_from listing tt k (map (walks_term listing) ts) l ≡ lists l (flat_map uses_of_term ts)
from_listed [] all k l = ap (λ uses. let r : Listed = record { uses = uses } in r) (sym (append-nil l.uses))
from_listed (t ∷ ts) all k l =
    ap (λ (there : Listed × ⊤). walks_from listing tt (k + 1) (map (walks_term listing) ts) there.0) (all.0 l)
    ∙ from_listed ts all.1 (k + 1) (lists l (uses_of_term t))
    ∙ lists_more l (uses_of_term t) (flat_map uses_of_term ts)

of_arguments : (u : Term) → AllByRecursion IsListed (out-Term u).args → IsListed u
of_arguments u all l =
    let own : List NameUse = use_of (out-Term u).name (length (out-Term u).args) false ∷ [] in
    walk_out listing u l
    ∙ ap (λ (r : Listed). (r, tt))
    (from_listed (out-Term u).args all 0 (lists l own) ∙ lists_more l own (flat_map uses_of_term (out-Term u).args) ∙ ap (lists l) (sym (uses_out u)))

pub term_listed : (u : Term) → IsListed u
term_listed = term_by_arguments IsListed of_arguments

pub terms_listed : (ts : List Term) (l : Listed) → walks_terms listing tt ts l ≡ lists l (flat_map uses_of_term ts)
terms_listed ts l = from_listed ts (terms_by_arguments IsListed of_arguments ts) 0 l

pub equations_listed : (es : List Equation) (l : Listed) → walks_equations listing es l ≡ lists l (flat_map uses_of_equation es)
equations_listed [] l = ap (λ uses. let r : Listed = record { uses = uses } in r) (sym (append-nil l.uses))
equations_listed (e ∷ es) l =
    ap (λ (there : Listed × ⊤). walks_equations listing es (walks_term listing e.right there.0).0) (term_listed e.left l)
    ∙ ap (λ (there : Listed × ⊤). walks_equations listing es there.0) (term_listed e.right (lists l (uses_of_term e.left)))
    ∙ ap (walks_equations listing es) (lists_more l (uses_of_term e.left) (uses_of_term e.right))
    ∙ equations_listed es (lists l (uses_of_equation e))
    ∙ lists_more l (uses_of_equation e) (flat_map uses_of_equation es)

-- a head's own name is listed, and those of its terms are walked
pub head_listed : (h : Head) (l : Listed) (uses : List NameUse) (own : NameUse) (count : ℕ) (items : List Term) → uses ≡ l.uses ++ own ∷ [] → own ≡ use_of h.name count true → count ≡ length h.terms → items ≡ h.terms →
    walks_terms listing tt items (record { uses = uses }) ≡ lists l (uses_of_head h)
head_listed h l uses own count items added is counted all =
    let here : own ≡ use_of h.name (length h.terms) true = is ∙ ap (λ n. use_of h.name n true) counted in
    ap (λ (ts : List Term). walks_terms listing tt ts (record { uses = uses })) all
    ∙ ap (λ z. walks_terms listing tt h.terms (record { uses = z })) (added ∙ ap (λ n. l.uses ++ n ∷ []) here)
    ∙ terms_listed h.terms (lists l (use_of h.name (length h.terms) true ∷ []))
    ∙ lists_more l (use_of h.name (length h.terms) true ∷ []) (flat_map uses_of_term h.terms)
