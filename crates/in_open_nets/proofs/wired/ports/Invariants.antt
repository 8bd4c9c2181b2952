use Rattle.in_open_nets.specs.Parts.{ArePorts}
use Rattle.in_open_nets.proofs.wired.ports.Given as goal

abbrev pub invariant-loop-node : goal.invariant-loop-node
invariant-loop-node l = ArePorts l.open l.node l.ports
