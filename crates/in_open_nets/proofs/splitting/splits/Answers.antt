use Rattle.std.proofs.Common.{◌∙◌, ◌<◌, sym, subst}
use Rattle.in_open_nets.specs.Members.{nodes_in}
use Rattle.in_open_nets.specs.ClassEdges.{vertex_in, hub_edge_in}
use Rattle.in_open_nets.proofs.Graphs.ClassWalks.{net_off_cycles}
use Rattle.in_open_nets.proofs.Graphs.ClassEdges.{hub_edge_small, off_cycles}
use Rattle.in_open_nets.proofs.splitting.splits.Goals as goal

pub is_off_cycles-requires-clause-edges : goal.is_off_cycles-requires-clause-edges
is_off_cycles-requires-clause-edges c =
    let here = sym c.has.ensures ∙ c.if-has.true in
    λ k h. hub_edge_small c.args.part.now.wired.now c.args.part.now.nodes.now c.args.graph.now c.requires.graph.graph c.args.cycles.now c.requires.cycles c.args.node here k (subst (λ z. k < z) c.width.ensures.width h)

pub returns-then-has : goal.returns-then-has
returns-then-has c =
    let o = c.args.part.now.wired.now in
    let g = c.args.graph.now in
    let here = sym c.has.ensures ∙ c.if-has.true in
    let law = net_off_cycles o c.width.ensures.net.net (nodes_in c.args.part.now.nodes.now) (vertex_in g.hubs) (hub_edge_in g.hubs) g.edges c.requires.graph.graph c.args.node here in
    let off = off_cycles o c.args.part.now.nodes.now g c.requires.graph.graph c.args.cycles.now c.requires.cycles c.args.node here in
    let test = c.is_off_cycles.ensures in
    let w = c.width.ensures.width in (
      (λ t. (here, law.1 (off.0 (λ k h. test.0 t k (subst (λ z. k < z) (sym w) h))))),
      λ s. test.1 (λ k h. off.1 (law.0 s.1) k (subst (λ z. k < z) w h)),
    )
