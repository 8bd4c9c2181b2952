-- The order in which the names and the ~ of rules and nets are in their text.
use Rattle.std.specs.Prelude.{◌≡◌, ◌<◌, List, [], ◌∷◌, ◌++◌, map}
use Rattle.std.specs.List.{AllByRecursion, flat_map}
use Rattle.in_syntax.specs.declared.places.Place.{Place}
use Rattle.in_syntax.specs.declared.tree.Term.{Term}
use Rattle.in_syntax.specs.declared.tree.Term.TheFolds.{fold-Term}
use Rattle.in_syntax.specs.declared.tree.Equation.{Equation}
use Rattle.in_syntax.specs.declared.tree.Head.{Head}
use Rattle.in_syntax.specs.declared.tree.Source.{Source}
use Rattle.in_syntax.specs.declared.tree.SourceFree.{SourceFree}
use Rattle.in_syntax.specs.declared.tree.SourceNet.{SourceNet}
use Rattle.in_syntax.specs.declared.tree.SourceRule.{SourceRule}
use Rattle.in_syntax.specs.declared.tree.SourceSymbol.{SourceSymbol}
use Rattle.in_base.specs.Lists.{IsAmong}

-- each place is before those after it
abbrev pub Rises : List Place → Type 0
Rises [] = Unit {0}
Rises (p ∷ ps) = AllByRecursion (λ q. p.from < q.from) ps × Rises ps

-- the places of a term's names: its own, and then those of its arguments
abbrev pub term_places : Term → List Place
term_places = fold-Term (List Place) (λ f. f.name.place ∷ flat_map (λ ps. ps) f.args)

-- the places of an equation's names and of its ~
abbrev pub equation_places : Equation → List Place
equation_places e = term_places e.left ++ e.tilde ∷ term_places e.right

-- the names and the ~ of a net follow one another, in the order of the list
abbrev pub IsInOrder : SourceNet → Type 0
IsInOrder n = Rises (flat_map equation_places n.equations)

-- the places of a head's name and of the names of its terms
abbrev pub head_places : Head → List Place
head_places h = h.name.place ∷ flat_map term_places h.terms

-- the names and the ~ of a rule
abbrev pub rule_places : SourceRule → List Place
rule_places r = (head_places r.first ++ head_places r.second) ++ flat_map equation_places r.equations

-- they follow one another, in the order of the list
abbrev pub IsRuleInOrder : SourceRule → Type 0
IsRuleInOrder r = Rises (rule_places r)

-- in each rule and in the net, the names and the ~ follow one another
pub record IsWrittenInOrder (s : Source) : Type 0 where
  pub rules : AllByRecursion IsRuleInOrder s.rules
  pub net : IsInOrder s.net

-- ---- all names and ~ of a program

-- two of these places that begin at one byte are equal
abbrev pub BeginApart : List Place → Type 0
BeginApart ps = (p q : Place) → IsAmong p ps → IsAmong q ps → p.from ≡ q.from → p ≡ q

-- a declared symbol's name, and the names of its ports' types
abbrev pub symbol_places : SourceSymbol → List Place
symbol_places d = d.name.place ∷ d.port.kind.place ∷ flat_map (λ c. map (λ q. q.kind.place) c) d.classes

-- a free name, and its type's name
abbrev pub free_places : SourceFree → List Place
free_places f = f.name.place ∷ f.port.kind.place ∷ []

-- the place of each name and each ~ of a program
abbrev pub source_places : Source → List Place
source_places s = map (λ n. n.place) s.types ++ (flat_map symbol_places s.symbols ++ (flat_map rule_places s.rules ++ (flat_map free_places s.net.free ++ flat_map equation_places s.net.equations)))
