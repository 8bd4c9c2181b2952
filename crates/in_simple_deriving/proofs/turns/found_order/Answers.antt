use Rattle.std.proofs.Common.{◌≡◌, true, length, sym, subst, ap, ◌∙◌, arith}
use Rattle.in_open_nets.specs.Members.{nodes_in}
use Rattle.in_open_nets.specs.Parts.{IsFirstIn}
use Rattle.in_open_nets.proofs.Public.{count_less, in_length}
use Rattle.in_simple_deriving.proofs.Ordered.{LeadsOn, leads_end, leads_more, leads_start}
use Rattle.in_simple_deriving.proofs.turns.found_order.Goals as goal

pub loop-order-init : goal.loop-order-init
loop-order-init c =
    let o = c.args.wired.now in
    let e = c.in_ok-left.ensures in
    let size = ap length e ∙ c.in_ok-all.ensures.size ∙ c.nodes-count.ensures.count in
    record {
      size = size;
      leads = subst (λ z. LeadsOn o z (nodes_in c.in_ok-left.left)) (sym c.new-order.ensures) (leads_start o c.in_ok-left.left size (λ n l. subst (λ z. nodes_in z n ≡ true) (sym e) (c.in_ok-all.ensures.all n (let k = c.nodes-count.ensures.count in omega arith))));
    }

pub loop-order-smaller : goal.loop-order-smaller
loop-order-smaller c =
    let o = c.args.wired.now in
    let left = c.loop-order.left in
    let rest = c.in_ok-rest.rest in
    let f = subst (IsFirstIn o left) c.in-Some.is c.in_ok-node.ensures.found in
    let small = in_length left c.in-Some.node f.here in
    let size = c.loop-order.invariant.size in
    count_less (nodes_in left) (nodes_in rest) (λ n k. ((c.in_ok-rest.ensures.rest n).0 k).0) c.in-Some.node f.here c.in_ok-rest.ensures.out (length o.nodes) (omega arith)

pub loop-order-preserved : goal.loop-order-preserved
loop-order-preserved c =
    let o = c.args.wired.now in
    let left = c.loop-order.left in
    let rest = c.in_ok-rest.rest in
    let i = c.loop-order.invariant in
    let f = subst (IsFirstIn o left) c.in-Some.is c.in_ok-node.ensures.found in
    record {
      size = c.in_ok-rest.ensures.size ∙ i.size;
      leads = subst (λ z. LeadsOn o z (nodes_in rest)) (sym c.in_ok-push.ensures.ok) (leads_more o c.loop-order.order (nodes_in left) (nodes_in rest) c.in-Some.node i.leads f c.in_ok-rest.ensures.rest);
    }

pub returns : goal.returns
returns c =
    let o = c.args.wired.now in
    let left = c.loop-order.left in
    let i = c.loop-order.invariant in
    let none = subst (IsFirstIn o left) c.in_default.is c.in_ok-node.ensures.found in
    leads_end o c.loop-order.order (nodes_in left) i.leads (λ n k g. let l = in_length left n k in let size = i.size in none n (omega arith) (k, g))
