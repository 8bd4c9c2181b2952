use Rattle.std.proofs.Common.{◌≡◌, get_or, sym, subst, arith, length}
use Rattle.in_simple_bridges.specs.Stars.{AreChains}
use Rattle.in_simple_bridges.proofs.Chains.{chains_start, chains_more}
use Rattle.in_simple_bridges.proofs.Widening.{pair_at}
use Rattle.in_simple_bridges.proofs.star.Star.of.Goals as goal

pub loop-edge-init : goal.loop-edge-init
loop-edge-init c =
    let k = c.in_ok-zeros.ensures in
    subst (AreChains c.args.count c.args.edges.now 0 c.in_ok-zeros.field-0) (sym c.new.ensures) (chains_start c.args.count c.args.edges.now c.in_ok-zeros.field-0 k.size k.zero)

pub loop-edge-preserved : goal.loop-edge-preserved
loop-edge-preserved c =
    let n = c.len-edge-end.ensures in
    let b = c.loop-edge.edge in
    let pair = get_or c.as_slice.result.now b (0, 0) in
    let e = pair_at c.args.edges.now c.as_slice.result.now b c.as_slice.ensures (omega arith) in
    let in_range = c.requires b pair.0 pair.1 e in
    chains_more c.args.count c.args.edges.now b pair.0 pair.1 c.loop-edge.star.heads c.loop-edge.star.links c.link.new.self.heads c.link.new.self.links c.link-in-loop-edge.new.self.heads c.link-in-loop-edge.new.self.links in_range.0 in_range.1 c.loop-edge.invariant e c.in_ok-link.ensures c.in_ok-link-2.ensures

pub returns : goal.returns
returns c =
    let n = c.len-edge-end.ensures in
    let e : c.loop-edge.edge ≡ length c.args.edges.now = omega arith in
    subst (λ z. AreChains c.args.count c.args.edges.now z c.loop-edge.star.heads c.loop-edge.star.links) e c.loop-edge.invariant
