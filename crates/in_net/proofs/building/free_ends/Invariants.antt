use Rattle.std.proofs.Common.{◌≡◌, ◌++◌, drop}
use Rattle.in_symbols.specs.Tables.{FreeKnown}
use Rattle.in_net.specs.Building.{free_ends_from}
use Rattle.in_net.proofs.building.free_ends.Given as goal

abbrev pub invariant-loop-number : goal.invariant-loop-number
invariant-loop-number l = record {
  ends : l.ends.items ++ free_ends_from l.symbols l.spots l.links l.number (drop l.number l.free) ≡ free_ends_from l.symbols l.spots l.links 0 l.free;
  known : FreeKnown l.symbols.types (drop l.number l.free);
}
