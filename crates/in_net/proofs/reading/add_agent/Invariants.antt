use Rattle.std.proofs.Common.{◌≡◌, ◌++◌, ◌+◌, ◌-◌, length}
use Rattle.in_net.specs.Reading.{ports_from}
use Rattle.in_net.proofs.reading.add_agent.Given as goal

abbrev pub invariant-loop-port : goal.invariant-loop-port
invariant-loop-port l = record {
  spots : l.reading.spots ++ ports_from (length l.reading.agents) l.place l.port (l.arity + 1 - l.port) ≡ l.fn.reading.spots ++ ports_from (length l.fn.reading.agents) l.place 0 (l.arity + 1);
  agents : l.reading.agents ≡ l.fn.reading.agents;
  joints : l.reading.joints ≡ l.fn.reading.joints;
  names : l.reading.names ≡ l.fn.reading.names;
}
