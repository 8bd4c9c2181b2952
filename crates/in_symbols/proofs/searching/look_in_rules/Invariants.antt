use Rattle.std.proofs.Common.{◌≡◌, drop, map}
use Rattle.in_syntax.specs.Refusals.{earliest}
use Rattle.in_symbols.specs.Searching.{unknown_in_rule, unknown_in_rules, finds}
use Rattle.in_symbols.proofs.searching.look_in_rules.Given as goal

abbrev pub invariant-loop-rule : goal.invariant-loop-rule
invariant-loop-rule l = record {
  symbols : l.lookup.symbols ≡ l.fn.lookup.symbols;
  found : earliest l.lookup.found (map (unknown_in_rule l.fn.lookup.symbols.now) (drop l.rule-index l.rules)) ≡ (finds l.fn.lookup (unknown_in_rules l.fn.lookup.symbols.now l.rules)).found;
}
