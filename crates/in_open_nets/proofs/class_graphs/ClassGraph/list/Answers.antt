use Rattle.std.proofs.Common.{arith}
use Rattle.in_open_nets.specs.Members.{nodes_in}
use Rattle.in_open_nets.proofs.Graphs.ClassEdges.{class_graph, graph_within, wires_start}
use Rattle.in_open_nets.proofs.PartsOf.FirstMembers.{next_small}
use Rattle.in_open_nets.proofs.Graphs.HubMembers.{wires_all, wires_next, wires_past}
use Rattle.in_open_nets.proofs.PartsOf.Members.{next_in}
use Rattle.in_open_nets.proofs.class_graphs.ClassGraph.list.Goals as goal

pub loop-member-init : goal.loop-member-init
loop-member-init c =
    let g = c.list_hubs.new.self in
    record {
      numbers = c.in_ok-list_hubs.ensures.numbers;
      edges = wires_start c.args.part.now.wired.now c.args.part.now.nodes.now g.hubs g.edges c.args.part.now.size c.in_ok-list_hubs.ensures.edges;
    }

pub add_edges-requires-clause-node : goal.add_edges-requires-clause-node
add_edges-requires-clause-node c = next_small c.args.part.now.wired.now c.args.part.now.nodes.now c.members-member-items.result.now c.members-member-items.ensures c.args.part.now.size c.loop-member.member-index c.loop-member-test.true

pub add_edges-requires-clause-here : goal.add_edges-requires-clause-here
add_edges-requires-clause-here c = next_in (nodes_in c.args.part.now.nodes.now) c.members-member-items.result.now c.members-member-items.ensures c.loop-member.member-index c.loop-member-test.true

pub add_edges-requires-clause-edges : goal.add_edges-requires-clause-edges
add_edges-requires-clause-edges c =
    let g = c.loop-member.self in
    wires_next c.args.part.now.wired.now c.args.part.now.nodes.now c.args.part.now.size c.members-member-items.result.now c.members-member-items.ensures g.hubs c.loop-member.member-index c.loop-member-test.true g.edges c.loop-member.invariant.edges

pub loop-member-preserved : goal.loop-member-preserved
loop-member-preserved c =
    let g = c.add_edges.new.self in
    record {
      numbers = c.in_ok-add_edges.ensures.numbers;
      edges = wires_past c.args.part.now.wired.now c.args.part.now.nodes.now c.args.part.now.size c.members-member-items.result.now c.members-member-items.ensures g.hubs c.loop-member.member-index c.loop-member-test.true g.edges c.in_ok-add_edges.ensures.edges;
    }

pub returns : goal.returns
returns c =
    let o = c.args.part.now.wired.now in
    let part = c.args.part.now.nodes.now in
    let size = c.args.part.now.size in
    let net = c.nodes.ensures.net.net in
    let f = c.loop-member-test.false in
    let a = c.loop-member.auto in
    let g = c.loop-member.self in
    let i = c.loop-member.invariant in
    let all = wires_all o part size c.members-member-items.result.now c.members-member-items.ensures g.hubs c.loop-member.member-index (omega arith) g.edges i.edges in
    record {
      graph = class_graph o net part size g.hubs g.count i.numbers g.edges all;
      within = graph_within o net part size g.hubs g.count i.numbers g.edges all;
      hubs = i.numbers.size;
    }
