use Rattle.std.proofs.Common.{◌+◌, ◌≡◌, ◌≤◌, length}
use Rattle.in_open_nets_of_programs.specs.Opening.{Each, IsNodeOf}
use Rattle.in_open_nets_of_programs.proofs.opening.nodes.Given as goal
use Rattle.in_syntax.specs.Grammar.{max_ports}

abbrev pub invariant-loop-agent : goal.invariant-loop-agent
invariant-loop-agent l = record {
  count : length l.nodes ≡ l.agent;
  each : Each (IsNodeOf l.built.tables l.built.net) l.nodes;
  few : Each (λ n node. length node.class_of ≤ max_ports + 1) l.nodes;
}
