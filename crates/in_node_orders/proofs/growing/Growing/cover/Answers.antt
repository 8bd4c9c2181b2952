use Rattle.std.proofs.Common.{arith}
use Rattle.in_node_orders.proofs.Climbs.{is_climbable}
use Rattle.in_node_orders.proofs.Edges.{growing_covered}
use Rattle.in_node_orders.proofs.growing.Growing.cover.Goals as goal

pub merge-requires-clause-from : goal.merge-requires-clause-from
merge-requires-clause-from c =
    let g = c.args.self.now in
    let r = (c.requires.growing.within g.come c.args.one c.args.other c.requires.ends).0 in
    let size = c.requires.growing.skips in
    omega (arith, r, size)

pub merge-requires-clause-to : goal.merge-requires-clause-to
merge-requires-clause-to c =
    let g = c.args.self.now in
    let r = (c.requires.growing.within g.come c.args.one c.args.other c.requires.ends).1 in
    let size = c.requires.growing.skips in
    omega (arith, r, size)

pub merge-requires-clause-climbable : goal.merge-requires-clause-climbable
merge-requires-clause-climbable c = is_climbable c.args.self.now c.requires.growing

pub returns-clause-growing : goal.returns-clause-growing
returns-clause-growing c =
    let g = c.args.self.now in
    λ t. growing_covered g.edges g.come g.ups g.vias g.skips c.requires.growing c.args.one c.args.other c.merge.new.skips c.requires.ends c.merge.ensures.size (c.merge.ensures.merges c.if-not-merge.false)
