use Rattle.in_net.proofs.AtPairs.ActivePairs.{AreFirstPairs}
use Rattle.in_net.proofs.nets.Net.active_pairs.Given as goal

abbrev pub invariant-loop-number : goal.invariant-loop-number
invariant-loop-number l = AreFirstPairs l.symbols l.self l.number l.pairs.items
