use Rattle.std.proofs.Common.{◌≡◌, ◌+◌, length}
use Rattle.in_simple_deriving.proofs.heads.PutBack.until.Given as goal

abbrev pub invariant-loop-node : goal.invariant-loop-node
invariant-loop-node l = record {
  order : l.back.order ≡ l.order;
  turn : l.back.turn + l.node ≡ length l.order.nodes + l.turn;
}
