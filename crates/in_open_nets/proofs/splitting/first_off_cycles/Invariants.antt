use Rattle.in_open_nets.proofs.PartsOf.Members.{past}
use Rattle.in_open_nets.specs.Parts.{NoneSplits}
use Rattle.in_open_nets.proofs.splitting.first_off_cycles.Given as goal

abbrev pub invariant-loop-member : goal.invariant-loop-member
invariant-loop-member l = NoneSplits l.part.wired.now l.part.nodes.now (past l.member-items l.member-index)
