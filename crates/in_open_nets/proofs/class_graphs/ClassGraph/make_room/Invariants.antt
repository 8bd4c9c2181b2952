use Rattle.std.proofs.Common.{◌≡◌, ◌+◌, length}
use Rattle.in_open_nets.proofs.class_graphs.ClassGraph.make_room.Given as goal

abbrev pub invariant-loop-node : goal.invariant-loop-node
invariant-loop-node l = length l.self.hubs ≡ length l.initial.self.hubs + l.node
