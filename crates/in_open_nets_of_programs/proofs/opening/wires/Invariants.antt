use Rattle.std.proofs.Common.{◌≡◌, length, Some}
use Rattle.std.specs.Prelude.{option_map}
use Rattle.in_net.specs.Parts.{wire_in}
use Rattle.in_open_nets_of_programs.specs.Opening.{Each, open_wire}
use Rattle.in_open_nets_of_programs.proofs.opening.wires.Given as goal

abbrev pub invariant-loop-number : goal.invariant-loop-number
invariant-loop-number l = record {
  count : length l.wires ≡ l.number;
  each : Each (λ w v. option_map open_wire (wire_in l.net w) ≡ Some v) l.wires;
}
