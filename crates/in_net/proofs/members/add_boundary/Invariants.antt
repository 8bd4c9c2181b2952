use Rattle.std.proofs.Common.{◌≡◌, ◌++◌, ◌+◌, ◌-◌, length}
use Rattle.in_net.specs.Building.{boundary_from, boundary_of}
use Rattle.in_net.proofs.members.add_boundary.Given as goal

abbrev pub invariant-loop-place : goal.invariant-loop-place
invariant-loop-place l = record {
  ends : l.ends.items ++ boundary_from l.symbols l.spots l.links l.symbol.0 l.place (length l.ends.items) (l.arity - l.place) ≡ l.fn.ends.items ++ boundary_of l.symbols l.spots l.links l.symbol.0 (length l.fn.ends.items);
  count : length l.ends.items ≡ length l.fn.ends.items + l.place;
}
