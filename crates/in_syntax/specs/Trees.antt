-- Trees that grow at their end.
use Rattle.std.specs.Prelude.{List, [], ◌∷◌, ◌++◌}
use Rattle.in_syntax.specs.declared.tree.Name.{Name}
use Rattle.in_syntax.specs.declared.tree.SourcePort.{SourcePort}
use Rattle.in_syntax.specs.declared.tree.SourceSymbol.{SourceSymbol}
use Rattle.in_syntax.specs.declared.tree.SourceNet.{SourceNet}
use Rattle.in_syntax.specs.declared.tree.SourceRule.{SourceRule}
use Rattle.in_syntax.specs.declared.tree.Equation.{Equation}
use Rattle.in_syntax.specs.declared.tree.Head.{Head}
use Rattle.in_syntax.specs.declared.tree.Term.{Term, out-Term, roll-Term}

-- a bare name
abbrev pub bare : Name → Term
bare n = roll-Term (record { name = n; args = [] })

-- one more argument
abbrev pub with_argument : Term → Term → Term
with_argument t a = roll-Term (record { name = (out-Term t).name; args = (out-Term t).args ++ a ∷ [] })

-- a head without terms
abbrev pub bare_head : Name → Head
bare_head n = record { name = n; terms = [] }

-- one more term
abbrev pub with_term : Head → Term → Head
with_term h t = record { name = h.name; terms = h.terms ++ t ∷ [] }

-- one more class
abbrev pub with_class : SourceSymbol → List SourcePort → SourceSymbol
with_class s c = record { name = s.name; port = s.port; classes = s.classes ++ c ∷ [] }

-- a rule without equations
abbrev pub bare_rule : Head → Head → SourceRule
bare_rule f h = record { first = f; second = h; equations = [] }

-- one more equation, of the net or of a rule
abbrev pub with_equation : SourceNet → Equation → SourceNet
with_equation n e = record { free = n.free; equations = n.equations ++ e ∷ [] }

abbrev pub rule_with_equation : SourceRule → Equation → SourceRule
rule_with_equation r e = record { first = r.first; second = r.second; equations = r.equations ++ e ∷ [] }
