-- The size of the program of a text of limited length.
use Rattle.std.specs.Prelude.{ℕ, ◌+◌, ◌≤◌, List, [], ◌∷◌, map, length}
use Rattle.std.specs.List.{flat_map, AllByRecursion}
use Rattle.in_syntax.specs.declared.tree.Term.{Term}
use Rattle.in_syntax.specs.declared.tree.Term.TheFolds.{fold-Term}
use Rattle.in_syntax.specs.declared.tree.Equation.{Equation}
use Rattle.in_syntax.specs.declared.tree.Source.{Source}
use Rattle.in_syntax.specs.declared.tree.SourceSymbol.{SourceSymbol}
use Rattle.in_syntax.specs.declared.tree.SourceRule.{SourceRule}
use Rattle.in_syntax.specs.declared.tree.Head.{Head}
use Rattle.in_syntax.specs.Grammar.{max_types, max_ports}
use Rattle.in_syntax.specs.TextLimits.{text_limit, max_symbols, max_rules, max_free}

abbrev pub total : List ℕ → ℕ
total [] = 0
total (n ∷ ns) = n + total ns

-- the names that are in a term
abbrev pub names_in : Term → ℕ
names_in = fold-Term ℕ (λ f. total f.args + 1)

abbrev pub names_in_equation : Equation → ℕ
names_in_equation e = names_in e.left + names_in e.right

abbrev pub names_in_equations : List Equation → ℕ
names_in_equations es = total (map names_in_equation es)

-- the names that are in a head, its symbol's with them
abbrev pub names_in_head : Head → ℕ
names_in_head h = total (map names_in h.terms) + 1

abbrev pub names_in_rule : SourceRule → ℕ
names_in_rule r = (names_in_head r.first + names_in_head r.second) + names_in_equations r.equations

abbrev pub names_in_rules : List SourceRule → ℕ
names_in_rules rs = total (map names_in_rule rs)

pub record IsSizedSymbol (s : SourceSymbol) : Type 0 where
  pub ports : length (flat_map (λ c. c) s.classes) ≤ max_ports
  pub classes : length s.classes ≤ max_ports

-- the sizes of a program that is read from a text: no list is longer than its limit, and there are no more names than bytes
pub record IsSized (s : Source) : Type 0 where
  pub types : length s.types ≤ max_types
  pub symbols : length s.symbols ≤ max_symbols s.limits
  pub ports : AllByRecursion IsSizedSymbol s.symbols
  pub rules : length s.rules ≤ max_rules s.limits
  pub free : length s.net.free ≤ max_free s.limits
  pub names : names_in_equations s.net.equations ≤ text_limit s.limits
  pub heads : names_in_rules s.rules ≤ text_limit s.limits
