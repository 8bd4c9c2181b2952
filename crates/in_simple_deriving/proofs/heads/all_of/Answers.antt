use Rattle.std.proofs.Common.{◌<◌, ◌+◌, length, sym, subst, ap, ◌∙◌, ltb-true, lt-ltb, arith}
use Rattle.in_open_nets.specs.OpenNets.{OpenNet}
use Rattle.in_node_orders.specs.Orders.{all_nodes}
use Rattle.in_simple_deriving.proofs.Listing.{ListsBelow, lists_all, lists_more, lists_none}
use Rattle.in_simple_deriving.proofs.heads.all_of.Goals as goal

pub loop-node-init : goal.loop-node-init
loop-node-init c = subst (ListsBelow (all_nodes c.args.order.now.net) 0) (sym c.new-nodes.ensures) (lists_none (all_nodes c.args.order.now.net))

pub loop-node-preserved : goal.loop-node-preserved
loop-node-preserved c =
    let o = c.args.order.now.net in
    let b = c.loop-node.node in
    let count = c.nodes-node-end.ensures.count ∙ ap (λ (z : OpenNet). length z.nodes) c.wired.ensures in
    let less = c.loop-node-test.true in
    let small : b < length o.nodes = omega arith in
    subst (ListsBelow (all_nodes o) (b + 1)) (sym c.in_ok-push.ensures.ok) (lists_more (all_nodes o) b c.loop-node.nodes c.loop-node.invariant (lt-ltb b (length o.nodes) small))

pub returns : goal.returns
returns c =
    let o = c.args.order.now.net in
    let count = c.nodes-node-end.ensures.count ∙ ap (λ (z : OpenNet). length z.nodes) c.wired.ensures in
    let over = c.loop-node-test.false in
    let most = c.loop-node.auto in
    lists_all (all_nodes o) c.loop-node.node c.loop-node.nodes c.loop-node.invariant (λ n k. let l = ltb-true n (length o.nodes) k in omega arith)
