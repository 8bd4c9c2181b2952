use Rattle.std.proofs.Common.{◌≡◌, drop, map}
use Rattle.in_syntax.specs.Refusals.{earliest}
use Rattle.in_net.specs.Counting.{lonely_place, lonely}
use Rattle.in_net.proofs.counting.lonely.Given as goal

abbrev pub invariant-loop-seen : goal.invariant-loop-seen
invariant-loop-seen l = earliest l.found (map (lonely_place l.spots l.free) (drop l.seen-index l.seen)) ≡ lonely l.spots l.free l.seen
