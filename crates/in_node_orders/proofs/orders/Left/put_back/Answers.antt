use Rattle.std.proofs.Common.{◌≡◌, ◌+◌, ◌-◌, get_or, sym, subst, arith}
use Rattle.in_node_orders.specs.Left.{HasSplitting, IsTested, left_nodes}
use Rattle.in_node_orders.specs.Turns.{left_at}
use Rattle.in_node_orders.proofs.Climbs.{number_read}
use Rattle.in_node_orders.proofs.Tested.{still_free, still_here, tested_more}
use Rattle.in_node_orders.proofs.orders.Left.put_back.Goals as goal

pub is_before-requires-clause-free : goal.is_before-requires-clause-free
is_before-requires-clause-free c =
    let o = c.args.wired.now in
    let nodes = c.args.nodes.now in
    let l0 = c.args.self.now in
    let l1 = c.come.new.self in
    let some = c.requires.turn in
    let most = c.requires.tested.most in
    let t = c.come.ensures.turn in
    let et : l1.turn + 1 ≡ l0.turn = omega (arith, t, some) in
    let n = get_or c.as_slice.result.now (l0.turn - 1) 0 in
    let is = number_read nodes c.as_slice.result.now (l0.turn - 1) l1.turn c.as_slice.ensures (omega (arith, some, most)) t in
    subst (HasSplitting o (left_nodes o l1) (left_at o l1.arrivals.node_turns (l1.turn + 1))) (sym c.come.ensures.free) (still_free o nodes l0 l1 c.requires.tested c.come.ensures.arrivals et n is)

pub splits-requires-clause-here : goal.splits-requires-clause-here
splits-requires-clause-here c =
    let o = c.args.wired.now in
    let nodes = c.args.nodes.now in
    let l0 = c.args.self.now in
    let l1 = c.come.new.self in
    let some = c.requires.turn in
    let most = c.requires.tested.most in
    let t = c.come.ensures.turn in
    let et : l1.turn + 1 ≡ l0.turn = omega (arith, t, some) in
    let n = get_or c.as_slice.result.now (l0.turn - 1) 0 in
    let is = number_read nodes c.as_slice.result.now (l0.turn - 1) l1.turn c.as_slice.ensures (omega (arith, some, most)) t in
    still_here o nodes l0 l1 c.is_before.new.self.arrivals c.is_before.new.self.turn n c.requires.tested c.come.ensures.arrivals c.is_before.ensures.arrivals c.is_before.ensures.turn is

pub returns-clause-tested : goal.returns-clause-tested
returns-clause-tested c =
    let o = c.args.wired.now in
    let nodes = c.args.nodes.now in
    let l0 = c.args.self.now in
    let l1 = c.come.new.self in
    let some = c.requires.turn in
    let most = c.requires.tested.most in
    let t = c.come.ensures.turn in
    let et : l1.turn + 1 ≡ l0.turn = omega (arith, t, some) in
    let n = get_or c.as_slice.result.now (l0.turn - 1) 0 in
    let is = number_read nodes c.as_slice.result.now (l0.turn - 1) l1.turn c.as_slice.ensures (omega (arith, some, most)) t in
    let l2 = c.is_before.new.self in
    λ h. subst (λ z. IsTested o nodes (record { arrivals = l2.arrivals; growing = l2.growing; turn = l2.turn; free = z })) (sym c.in_ok-push.ensures.ok)
    (tested_more o nodes l0 l1 l2.arrivals l2.growing l2.turn l2.free n c.requires.tested c.come.ensures.arrivals et (c.come.ensures.left c.if-not-come.false) c.is_before.ensures.arrivals c.is_before.ensures.growing c.is_before.ensures.turn is
    c.is_before.ensures.free (c.is_before.ensures.before c.if-not-is_before.false) (c.splits.ensures.0 c.if-not-splits.false))
