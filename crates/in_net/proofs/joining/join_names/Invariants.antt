use Rattle.std.proofs.Common.{◌≡◌, drop, length}
use Rattle.in_net.specs.Counting.{NamesInside}
use Rattle.in_net.specs.Joining.{joins_from, IsJoiningInside}
use Rattle.in_net.proofs.joining.join_names.Given as goal

abbrev pub invariant-loop-at : goal.invariant-loop-at
invariant-loop-at l = record {
  joined : joins_from l.at (drop l.at l.spots) l.joining ≡ joins_from 0 l.spots l.fn.joining;
  count : length l.joining.links ≡ length l.spots;
  seen : length l.joining.seen ≡ length l.fn.joining.seen;
  names : NamesInside (length l.fn.joining.seen) (drop l.at l.spots);
  inside : IsJoiningInside l.joining;
}
