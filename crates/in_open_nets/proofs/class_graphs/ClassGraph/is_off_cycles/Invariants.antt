use Rattle.std.proofs.Common.{◌≡◌, ◌<◌, ℕ, false, get_or}
use Rattle.in_open_nets.specs.ClassEdges.{hub_edge_in}
use Rattle.in_open_nets.proofs.class_graphs.ClassGraph.is_off_cycles.Given as goal

abbrev pub invariant-loop-class : goal.invariant-loop-class
invariant-loop-class l = (c : ℕ) → c < l.class → get_or l.cycles (hub_edge_in l.self.hubs l.node c) false ≡ false
