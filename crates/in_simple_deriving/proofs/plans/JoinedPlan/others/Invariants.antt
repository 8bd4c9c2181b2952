use Rattle.std.proofs.Common.{◌≡◌, ◌+◌, suc, length}
use Rattle.in_simple_deriving.specs.Progress.{PlansNet}
use Rattle.in_open_nets.specs.Stuck.{ports_of}
use Rattle.in_simple_deriving.proofs.plans.JoinedPlan.others.Given as goal

abbrev pub invariant-loop-near : goal.invariant-loop-near
invariant-loop-near l = record {
  plan : PlansNet l.wired l.node (l.turn + l.near) l.whole;
  rest : l.whole.rest ≡ l.fn.self.rest;
  turns : l.whole.turns ≡ suc (ports_of l.wired l.node) + length l.wired.nodes;
}
