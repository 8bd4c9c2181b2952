use Rattle.std.proofs.Common.{◌≡◌, ◌++◌, ◌-◌, []}
use Rattle.in_net.specs.Reading.{boundary_spots}
use Rattle.in_net.proofs.reading.read_ends.Given as goal

abbrev pub invariant-loop-number : goal.invariant-loop-number
invariant-loop-number l = record {
  spots : l.reading.spots ++ boundary_spots l.number (l.count - l.number) ≡ boundary_spots 0 l.count;
  agents : l.reading.agents ≡ [];
  joints : l.reading.joints ≡ [];
  names : l.reading.names ≡ [];
}
