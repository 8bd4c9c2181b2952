use Rattle.std.proofs.Common.{◌≡◌, ◌∙◌, length, sym, subst, arith}
use Rattle.in_node_orders.specs.declared.arrivals.Arrivals.{Arrivals}
use Rattle.in_node_orders.specs.Left.{IsOrderFrom}
use Rattle.in_node_orders.specs.Turns.{AreTurns}
use Rattle.in_node_orders.proofs.Steps.{all_taken}
use Rattle.in_node_orders.proofs.Tested.{tested_none}
use Rattle.in_node_orders.proofs.orders.is_right.Goals as goal

pub loop-left-init : goal.loop-left-init
loop-left-init c =
    let o = c.args.wired.now in
    let nodes = c.args.nodes.now in
    tested_none o nodes c.come.new.self (c.come.ensures.left c.if-not-come.false) (subst (λ (z : Arrivals). AreTurns (length o.nodes) nodes z.node_turns) (sym c.come.ensures.arrivals) c.requires.turns) (c.come.ensures.turn ∙ c.requires.turn) (c.come.ensures.free ∙ c.requires.free) (c.is_stuck.ensures c.if-not-is_stuck.false)

pub returns : goal.returns
returns c =
    let o = c.args.wired.now in
    let nodes = c.args.nodes.now in
    let turns = c.loop-left.left.arrivals.node_turns in
    let over = c.loop-left-test.false in
    let e : c.loop-left.left.turn ≡ 0 = omega (arith, over) in
    λ t. all_taken o nodes turns (subst (IsOrderFrom o turns nodes) e c.loop-left.invariant.order)
