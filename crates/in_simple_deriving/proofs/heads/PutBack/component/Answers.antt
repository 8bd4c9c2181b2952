use Rattle.std.proofs.Common.{◌+◌, length, sym, subst, ap, ◌∙◌, arith}
use Rattle.in_open_nets.specs.OpenNets.{OpenNet}
use Rattle.in_open_nets.specs.Stuck.{IsListed}
use Rattle.in_open_nets.proofs.Public.{not_both}
use Rattle.in_simple_deriving.specs.Heads.{PutBackTo}
use Rattle.in_simple_deriving.specs.Turns.{is_joined_from}
use Rattle.in_simple_deriving.proofs.HeadParts.{from_is, last_in, left_is}
use Rattle.in_simple_deriving.proofs.Listing.{ListsBelow, lists_all, lists_more, lists_past}
use Rattle.in_simple_deriving.proofs.heads.PutBack.component.Goals as goal
use Rattle.in_simple_deriving.proofs.heads.PutBack.component.Goals.{then-is_joined+in_ok-push, else-is_joined}

pub loop-node-preserved : goal.loop-node-preserved
loop-node-preserved c =
    let x = c.self.inside.order.now in
    let t = c.self.inside.turn in
    let s = is_joined_from x t c.args.head in
    let b = c.loop-node.node in
    let i = c.loop-node.invariant in
    record {
      up = c.is_joined.ensures.up;
      lists = elim c.if-is_joined.branch [
        | then-is_joined+in_ok-push w ↦ subst (ListsBelow s (b + 1)) (sym (w.nodes-is ∙ w.in_ok-push.ensures.ok)) (lists_more s b c.loop-node.nodes i.lists (c.is_joined.ensures.joined.0 w.if-is_joined.true))
        | else-is_joined w ↦ subst (ListsBelow s (b + 1)) (sym w.nodes-is) (lists_past s b c.loop-node.nodes i.lists (λ g. not_both c.is_joined.result (c.is_joined.ensures.joined.1 g) w.if-is_joined.false))
      ];
    }

pub returns : goal.returns
returns c =
    let x = c.self.inside.order.now in
    let t = c.self.inside.turn in
    let h = c.args.head in
    let s = is_joined_from x t h in
    let count = c.nodes-node-end.ensures.count ∙ ap (λ (z : OpenNet). length z.nodes) c.wired.ensures in
    let over = c.loop-node-test.false in
    let most = c.loop-node.auto in
    let l = lists_all s c.loop-node.node c.loop-node.nodes c.loop-node.invariant.lists (λ n g. let r = left_is x t n (last_in x t h n ((from_is x t h n).0 g)) in let r0 = r.0 in omega arith) in
    subst (λ (z : PutBackTo). IsListed (is_joined_from z.order z.turn h) c.loop-node.nodes) c.self.view_is l
