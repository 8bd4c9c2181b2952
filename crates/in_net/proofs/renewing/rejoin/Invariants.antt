use Rattle.in_net.proofs.WholeNets.Rejoined.{AreRejoinedTo}
use Rattle.in_net.proofs.renewing.rejoin.Given as goal

abbrev pub invariant-loop-number : goal.invariant-loop-number
invariant-loop-number l = AreRejoinedTo l.ends l.fn.free.items l.free.items l.number
