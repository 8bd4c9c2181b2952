use Rattle.std.proofs.Common.{length, get_or}
use Rattle.in_node_orders.proofs.Climbs.{pair_at}
use Rattle.in_node_orders.proofs.Edges.{ends_of, ends_small}
use Rattle.in_node_orders.proofs.growing.Growing.grow.Goals as goal

pub number_at-requires : goal.number_at-requires
number_at-requires c =
    let g = c.args.self.now in
    let pair = get_or c.as_slice.result.now g.come (0, 0) in
    let ends = ends_of g.edges g.come pair.0 pair.1 c.high_and_low-high.result.0 c.high_and_low-high.result.1 (pair_at g.edges c.as_slice.result.now g.come c.as_slice.ensures c.requires.more) c.high_and_low-high.ensures.same in
    (ends_small (length g.ups) g.edges c.requires.growing.within g.come c.high_and_low-high.result.0 c.high_and_low-high.result.1 ends).0

pub link-requires-clause-ends : goal.link-requires-clause-ends
link-requires-clause-ends c =
    let g = c.args.self.now in
    let pair = get_or c.as_slice.result.now g.come (0, 0) in
    ends_of g.edges g.come pair.0 pair.1 c.high_and_low-high.result.0 c.high_and_low-high.result.1 (pair_at g.edges c.as_slice.result.now g.come c.as_slice.ensures c.requires.more) c.high_and_low-high.ensures.same

pub cover-requires-clause-ends : goal.cover-requires-clause-ends
cover-requires-clause-ends c =
    let g = c.args.self.now in
    pair_at g.edges c.as_slice.result.now g.come c.as_slice.ensures c.requires.more
