use Rattle.std.proofs.Common.{◌≡◌, ◌<◌, ◌+◌, length}
use Rattle.in_node_orders.specs.Growing.{AreClimbable, MergesTo}
use Rattle.in_node_orders.proofs.growing.merge.Given as goal

abbrev pub invariant-loop-one : goal.invariant-loop-one
invariant-loop-one l = record {
  size : length l.skips ≡ length l.fn.skips;
  climbable : AreClimbable l.ups l.skips;
  one : l.one < length l.skips;
  other : l.other < length l.skips;
  merges : MergesTo l.ups l.fn.skips l.skips l.from l.to l.one l.other;
}

abbrev pub decreases-loop-one : goal.decreases-loop-one
decreases-loop-one l = l.one + l.other
