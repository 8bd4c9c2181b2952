use Rattle.std.proofs.Common.{◌≡◌, length}
use Rattle.in_simple.specs.Checking.{IsLed}
use Rattle.in_open_nets.specs.Members.{nodes_in}
use Rattle.in_simple.proofs.verifying.lead.Given as goal

abbrev pub invariant-loop-wire : goal.invariant-loop-wire
invariant-loop-wire l = record {
  size : length l.ends ≡ length l.initial.ends;
  led : IsLed l.«open» (nodes_in l.nodes) l.ends l.wire;
}
