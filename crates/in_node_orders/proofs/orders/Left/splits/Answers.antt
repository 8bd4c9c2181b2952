use Rattle.std.proofs.Common.{◌<◌, ◌∙◌, take, refl, sym, subst, inl, inr, arith}
use Rattle.std.proofs.lemmas.Bool.{cases_eq, false≢true}
use Rattle.in_simple_bridges.specs.Walks.{IsOnCycle}
use Rattle.in_open_nets.specs.ClassGraphs.{HasClass}
use Rattle.in_node_orders.specs.Arrivals.{hub_place}
use Rattle.in_node_orders.proofs.LeftNodes.{left_is}
use Rattle.in_node_orders.proofs.Steps.{hub_edge_come, splits_where_off}
use Rattle.in_node_orders.proofs.orders.Left.splits.Goals as goal

pub place-requires-clause-node : goal.place-requires-clause-node
place-requires-clause-node c =
    let l = c.args.self.now in
    let small = (left_is c.args.wired.now l.arrivals.node_turns l.turn c.args.node c.requires.here).0 in
    let hubs = c.requires.left.arrivals.hubs in
    omega (arith, small, hubs)

pub place-requires-clause-place : goal.place-requires-clause-place
place-requires-clause-place c =
    let l = c.args.self.now in
    let here = c.requires.here in
    let small = (left_is c.args.wired.now l.arrivals.node_turns l.turn c.args.node here).0 in
    let w = c.width-class-end.ensures.width in
    let test = c.loop-class-test.true in
    let has : HasClass c.args.wired.now c.args.node c.loop-class.class = omega (arith, w, test) in
    c.requires.left.arrivals.place c.args.node c.loop-class.class small has

pub is_on_cycle-requires-clause-growing : goal.is_on_cycle-requires-clause-growing
is_on_cycle-requires-clause-growing c = c.requires.left.growing

pub is_on_cycle-requires-clause-come : goal.is_on_cycle-requires-clause-come
is_on_cycle-requires-clause-come c =
    let l = c.args.self.now in
    let here = c.requires.here in
    let small = (left_is c.args.wired.now l.arrivals.node_turns l.turn c.args.node here).0 in
    let w = c.width-class-end.ensures.width in
    let test = c.loop-class-test.true in
    let has : HasClass c.args.wired.now c.args.node c.loop-class.class = omega (arith, w, test) in
    let come = hub_edge_come c.args.wired.now c.width-class-end.ensures.net.net l c.requires.left c.args.node here c.loop-class.class has in
    subst (λ z. z < l.growing.come) (sym c.place.ensures) come

pub returns-then-is_on_cycle : goal.returns-then-is_on_cycle
returns-then-is_on_cycle c =
    let l = c.args.self.now in
    let here = c.requires.here in
    let small = (left_is c.args.wired.now l.arrivals.node_turns l.turn c.args.node here).0 in
    let w = c.width-class-end.ensures.width in
    let test = c.loop-class-test.true in
    let has : HasClass c.args.wired.now c.args.node c.loop-class.class = omega (arith, w, test) in
    let law = splits_where_off c.args.wired.now c.width-class-end.ensures.net.net l c.requires.left c.args.node here in
    let on = subst (λ z. IsOnCycle (take l.growing.come l.growing.edges) z) c.place.ensures (c.is_on_cycle.ensures.0 c.if-is_on_cycle.true) in
    ((λ t. absurd (false≢true t)), λ s. absurd (law.0 s c.loop-class.class has on))

pub loop-class-preserved : goal.loop-class-preserved
loop-class-preserved c =
    let l = c.args.self.now in
    λ k less on. elim (cases_eq k c.loop-class.class) [
      | inl same ↦
          let at_class = subst (λ z. IsOnCycle (take l.growing.come l.growing.edges) (hub_place l.arrivals c.args.node z)) same on in
          let here = subst (λ z. IsOnCycle (take l.growing.come l.growing.edges) z) (sym c.place.ensures) at_class in
          false≢true (sym c.if-is_on_cycle.false ∙ c.is_on_cycle.ensures.1 here)
      | inr d ↦ c.loop-class.invariant k (omega (arith, less, d)) on
    ]

pub returns : goal.returns
returns c =
    let l = c.args.self.now in
    let w = c.width-class-end.ensures.width in
    let over = c.loop-class-test.false in
    let law = splits_where_off c.args.wired.now c.width-class-end.ensures.net.net l c.requires.left c.args.node c.requires.here in
    ((λ t. law.1 (λ k h. c.loop-class.invariant k (omega (arith, h, w, over)))), λ s. refl)
