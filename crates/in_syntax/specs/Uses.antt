-- The names of a rule and of the net's equations, in the order of the text, each with its place and the number of terms in its brackets.
use Rattle.std.specs.Prelude.{ℕ, Bool, true, false, List, [], ◌∷◌, ◌++◌, length, ⊤}
use Rattle.std.specs.List.{flat_map}
use Rattle.in_syntax.specs.declared.tree.Name.{Name}
use Rattle.in_syntax.specs.declared.tree.Term.{Term}
use Rattle.in_syntax.specs.declared.tree.Term.TheFolds.{fold-Term}
use Rattle.in_syntax.specs.declared.tree.Equation.{Equation}
use Rattle.in_syntax.specs.declared.tree.Head.{Head}
use Rattle.in_syntax.specs.declared.tree.SourceNet.{SourceNet}
use Rattle.in_syntax.specs.declared.tree.SourceRule.{SourceRule}
use Rattle.in_syntax.specs.declared.uses.NameUse.{NameUse}
use Rattle.in_syntax.specs.declared.uses.Listed.{Listed}
use Rattle.in_syntax.specs.Walks.{Visits}

-- a name with `terms` terms after it, which may be a head's name
abbrev pub use_of : Name → ℕ → Bool → NameUse
use_of n terms head = record { place = n.place; arguments = terms; is_head = head }

-- the names of a term: its own, and then those of its arguments
abbrev pub uses_of_term : Term → List NameUse
uses_of_term = fold-Term (List NameUse) (λ f. use_of f.name (length f.args) false ∷ flat_map (λ uses. uses) f.args)

-- the names of a head: its own, and then those of its terms
abbrev pub uses_of_head : Head → List NameUse
uses_of_head h = use_of h.name (length h.terms) true ∷ flat_map uses_of_term h.terms

abbrev pub uses_of_equation : Equation → List NameUse
uses_of_equation e = uses_of_term e.left ++ uses_of_term e.right

-- the names of a rule's heads, and then those of its equations
abbrev pub uses_of_rule : SourceRule → List NameUse
uses_of_rule r = (uses_of_head r.first ++ uses_of_head r.second) ++ flat_map uses_of_equation r.equations

-- the names of the net's equations
abbrev pub uses_of_body : SourceNet → List NameUse
uses_of_body n = flat_map uses_of_equation n.equations

-- ---- how a walk lists them. No public contract names this

abbrev pub lists : Listed → List NameUse → Listed
lists l more = record { uses = l.uses ++ more }

-- each name is added at the end
abbrev pub listing : Visits Listed ⊤
listing = record {
  name = λ l n terms. (lists l (use_of n terms false ∷ []), tt);
  argument = λ l of number argument. l;
  equation = λ l left right tilde. l;
}
