use Rattle.std.proofs.Common.{◌≡◌, ◌<◌, ◌≤◌, ℕ, length, sym, ◌∙◌, arith}
use Rattle.in_simple_deriving.specs.Turns.{NodeOrder, node_at, turn_of}
use Rattle.in_simple_deriving.proofs.Numbered.{first_fit, first_same, node_turn, turn_node}
use Rattle.in_simple_deriving.proofs.Ordered.{ByTurns, all_turns, order_distinct}
use Rattle.in_simple_deriving.proofs.turns.NodeTurns.of.Goals as goal

pub with_others-requires-clause-first : goal.with_others-requires-clause-first
with_others-requires-clause-first c = order_distinct c.args.wired.now c.nodes-count.result c.in_ok-order.order (sym c.nodes-count.ensures.count) c.in_ok-order.ensures

pub invariant_of-result : goal.invariant_of-result
invariant_of-result c =
    let o = c.args.wired.now in
    let a = c.in_ok-nodes.ensures in
    let ts = c.in_ok-turns.ensures in
    let order = c.in_ok-order.order in
    let x : NodeOrder = record { net = o; nodes = c.in_ok-nodes.nodes; turns = c.in_ok-turns.turns; taken = c.len-taken.result } in
    let count = c.nodes-count.ensures.count in
    let size = c.len-taken.ensures in
    let fit = first_fit order x.nodes a.begins in
    let most : x.taken ≤ length x.nodes = omega (arith, size, fit) in
    let nodes : (t : ℕ) → t < length x.nodes → (node_at x t < length o.nodes) × (turn_of x (node_at x t) ≡ t) =
    λ t l. let r = node_turn c.nodes-count.result order x.nodes x.turns a ts t l in let small = r.0 in (omega (arith, small, count), r.1) in
    let turns : (n : ℕ) → n < length o.nodes → (turn_of x n < length x.nodes) × (node_at x (turn_of x n) ≡ n) =
    λ n l. turn_node c.nodes-count.result order x.nodes x.turns a ts n (omega (arith, l, count)) in
    let by : ByTurns x nodes turns most 0 = all_turns x nodes turns most order c.in_ok-order.ensures (sym size) (λ t l. first_same order x.nodes a.begins t (omega (arith, l, size))) in
    record {
      orderly = c.nodes-count.ensures.net;
      each = ts.size ∙ count;
      node = nodes;
      turn = turns;
      most = most;
      first = λ t l. by.first t (omega arith) l;
      stuck = by.stuck;
    }
