use Rattle.std.proofs.Common.{◌+◌, ◌≡◌, ◌≤◌, length}
use Rattle.in_open_nets_of_programs.specs.Opening.{Each}
use Rattle.in_open_nets_of_programs.specs.OpeningRules.{IsRuleNode}
use Rattle.in_open_nets_of_programs.proofs.opening_rules.Layout.nodes.Given as goal
use Rattle.in_syntax.specs.Grammar.{max_ports}

abbrev pub invariant-loop-number : goal.invariant-loop-number
invariant-loop-number l = record {
  count : length l.nodes ≡ l.number;
  each : Each (IsRuleNode l.self.tables l.self.rule) l.nodes;
  few : Each (λ n node. length node.class_of ≤ max_ports + 1) l.nodes;
}
