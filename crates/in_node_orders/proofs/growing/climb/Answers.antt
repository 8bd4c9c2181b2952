use Rattle.std.proofs.Common.{◌≡◌, ◌≢◌, ◌-◌, suc, subst, arith}
use Rattle.in_simple_bridges.specs.Spans.{at}
use Rattle.in_node_orders.specs.Heads.{LeadsToHead}
use Rattle.in_node_orders.proofs.Climbs.{climbs_to}
use Rattle.in_node_orders.proofs.growing.climb.Goals as goal

pub returns-clause-climbs : goal.returns-clause-climbs
returns-clause-climbs c =
    let ups = c.args.ups.now in
    let x = c.args.from in
    let up = c.number_at-up.result in
    let is = c.number_at-up.ensures in
    let d : up ≢ 0 = c.if-up-eq0.false in
    let e : at ups x ≡ suc (up - 1) = omega (arith, is, d) in
    climbs_to ups c.args.skips.now c.head.new.skips x (up - 1) c.head.result c.requires.small c.requires.climbable.ups_fall e (subst (λ z. LeadsToHead z c.head.new.skips (up - 1) c.head.result) c.set.ensures c.head.ensures.leads)
