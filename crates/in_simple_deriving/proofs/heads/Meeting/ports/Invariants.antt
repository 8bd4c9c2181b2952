use Rattle.std.proofs.Common.{◌≡◌}
use Rattle.in_simple_deriving.specs.Heads.{AreMetAfter, meets_to}
use Rattle.in_simple_deriving.proofs.heads.Meeting.ports.Given as goal

abbrev pub invariant-loop-port : goal.invariant-loop-port
invariant-loop-port l = record {
  next : l.meeting ≡ meets_to l.fn.self.order l.fn.self.node l.port;
  met : AreMetAfter l.fn.self.order l.fn.self.node l.fn.met l.port l.met;
}
