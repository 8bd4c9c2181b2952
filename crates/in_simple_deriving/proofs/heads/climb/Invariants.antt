use Rattle.std.proofs.Common.{◌≡◌, ◌<◌, length, slice_index_or}
use Rattle.in_simple_deriving.specs.Heads.{Climbs, LeadsEarlier, IsShorter, up_from}
use Rattle.in_simple_deriving.proofs.heads.climb.Given as goal

abbrev pub invariant-loop-above : goal.invariant-loop-above
invariant-loop-above l = record {
  small : l.at < length l.up;
  above : l.above ≡ up_from l.up l.at;
  goes : LeadsEarlier l.order.turns l.up;
  shorter : IsShorter l.fn.up l.up;
  climbs : Climbs l.fn.up l.from l.at;
}

abbrev pub decreases-loop-above : goal.decreases-loop-above
decreases-loop-above l = slice_index_or l.order.turns l.at 0
