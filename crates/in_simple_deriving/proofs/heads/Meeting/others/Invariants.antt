use Rattle.std.proofs.Common.{◌≡◌, ◌+◌, suc, List}
use Rattle.in_open_nets.specs.Stuck.{ports_of}
use Rattle.in_simple_deriving.specs.declared.heads.Met.{Met}
use Rattle.in_simple_deriving.specs.Heads.{AreMetAfter, meets_to}
use Rattle.in_simple_deriving.proofs.heads.Meeting.others.Given as goal

abbrev pub invariant-loop-near : goal.invariant-loop-near
invariant-loop-near l = record {
  next : l.meeting ≡ meets_to l.fn.self.order l.fn.self.node (suc (ports_of l.fn.self.order.net l.fn.self.node) + l.near);
  met : (old : List Met) → AreMetAfter l.fn.self.order l.fn.self.node old (suc (ports_of l.fn.self.order.net l.fn.self.node)) l.fn.met → AreMetAfter l.fn.self.order l.fn.self.node old (suc (ports_of l.fn.self.order.net l.fn.self.node) + l.near) l.met;
}
