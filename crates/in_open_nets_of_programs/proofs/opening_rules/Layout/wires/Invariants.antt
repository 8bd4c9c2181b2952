use Rattle.std.proofs.Common.{◌≡◌, length, Some}
use Rattle.std.specs.Prelude.{option_map}
use Rattle.in_net.specs.Parts.{wire_in}
use Rattle.in_open_nets_of_programs.specs.Opening.{Each}
use Rattle.in_open_nets_of_programs.specs.OpeningRules.{is_turned, rule_wire}
use Rattle.in_open_nets_of_programs.proofs.opening_rules.Layout.wires.Given as goal

abbrev pub invariant-loop-number : goal.invariant-loop-number
invariant-loop-number l = record {
  count : length l.wires ≡ l.number;
  each : Each (λ w v. option_map (rule_wire l.self.tables l.self.rule (is_turned l.self.rule)) (wire_in l.self.rule.member w) ≡ Some v) l.wires;
}
