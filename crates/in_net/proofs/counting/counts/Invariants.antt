use Rattle.std.proofs.Common.{◌≡◌, drop, length}
use Rattle.in_net.specs.Counting.{counts_from, nothing_counted, NamesInside}
use Rattle.in_net.proofs.counting.counts.Given as goal

abbrev pub invariant-loop-at : goal.invariant-loop-at
invariant-loop-at l = record {
  counted : counts_from l.at (drop l.at l.spots) l.counting ≡ counts_from 0 l.spots (nothing_counted l.names);
  count : length l.counting.seen ≡ l.names;
  names : NamesInside l.names (drop l.at l.spots);
}
