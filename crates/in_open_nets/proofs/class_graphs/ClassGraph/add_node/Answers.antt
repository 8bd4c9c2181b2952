use Rattle.std.proofs.Common.{◌+◌, refl, sym, subst}
use Rattle.in_open_nets.specs.ClassEdges.{AreHubEdges, HaveNumbers}
use Rattle.in_open_nets.proofs.Graphs.ClassEdges.{edges_in, numbers_in}
use Rattle.in_open_nets.proofs.class_graphs.ClassGraph.add_node.Goals as goal

pub returns-clause-numbers : goal.returns-clause-numbers
returns-clause-numbers c =
    let o = c.args.part.now.wired.now in
    let part = c.args.part.now.nodes.now in
    let old = c.args.self.now in
    let w = c.width-width in
    subst (λ z. HaveNumbers o part (c.args.node + 1) z (old.count + 1 + w.result)) (sym c.set.ensures)
    (numbers_in o part c.args.node c.requires.node old.hubs old.count c.requires.numbers old.count c.len.result w.result w.ensures.width w.ensures.few refl)

pub returns-clause-edges : goal.returns-clause-edges
returns-clause-edges c =
    let o = c.args.part.now.wired.now in
    let part = c.args.part.now.nodes.now in
    let old = c.args.self.now in
    subst (λ z. AreHubEdges o part (c.args.node + 1) z c.add_hub_edges.new.edges) (sym c.set.ensures)
    (edges_in o part c.args.node c.requires.node old.hubs old.count c.requires.numbers old.count c.len.result old.edges c.requires.edges c.width-width.result c.add_hub_edges.new.edges c.width-width.ensures.width c.len.ensures c.requires.here c.in_ok-add_hub_edges.ensures)
