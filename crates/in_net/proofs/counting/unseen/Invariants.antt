use Rattle.std.proofs.Common.{◌≡◌, ◌++◌, ◌-◌}
use Rattle.in_net.specs.Counting.{none_seen}
use Rattle.in_net.proofs.counting.unseen.Given as goal

abbrev pub invariant-loop : goal.invariant-loop
invariant-loop l = l.seen ++ none_seen (l.names - l.counter) ≡ none_seen l.names
