use Rattle.in_open_nets.specs.Parts.{AreLed}
use Rattle.in_open_nets.proofs.wired.slots.Given as goal

abbrev pub invariant-loop-wire : goal.invariant-loop-wire
invariant-loop-wire l = AreLed l.open l.wire l.slots
