use Rattle.std.proofs.Common.{◌≤◌, length, sym, subst, arith}
use Rattle.in_open_nets.specs.ClassEdges.{AreHubEdges}
use Rattle.in_open_nets.specs.Members.{nodes_in}
use Rattle.in_open_nets.proofs.Graphs.ClassEdges.{edges_start, numbers_start}
use Rattle.in_open_nets.proofs.PartsOf.FirstMembers.{next_small}
use Rattle.in_open_nets.proofs.Graphs.HubMembers.{edges_all, edges_next, edges_past, numbers_all, numbers_next, numbers_past}
use Rattle.in_open_nets.proofs.PartsOf.Members.{next_in}
use Rattle.in_open_nets.proofs.class_graphs.ClassGraph.list_hubs.Goals as goal

pub loop-member-init : goal.loop-member-init
loop-member-init c =
    let o = c.args.part.now.wired.now in
    let part = c.args.part.now.nodes.now in
    let hubs = c.make_room.new.self.hubs in
    let size : length o.nodes ≤ length hubs = let a = c.in_ok-make_room.ensures in let b = c.nodes.ensures.count in omega arith in
    record {
      numbers = numbers_start o part hubs size;
      edges = subst (AreHubEdges o part 0 hubs) (sym c.new.ensures) (edges_start o part hubs);
    }

pub add_node-requires-clause-node : goal.add_node-requires-clause-node
add_node-requires-clause-node c = next_small c.args.part.now.wired.now c.args.part.now.nodes.now c.members-member-items.result.now c.members-member-items.ensures c.args.part.now.size c.loop-member.member-index c.loop-member-test.true

pub add_node-requires-clause-here : goal.add_node-requires-clause-here
add_node-requires-clause-here c = next_in (nodes_in c.args.part.now.nodes.now) c.members-member-items.result.now c.members-member-items.ensures c.loop-member.member-index c.loop-member-test.true

pub add_node-requires-clause-numbers : goal.add_node-requires-clause-numbers
add_node-requires-clause-numbers c =
    let g = c.loop-member.self in
    numbers_next c.args.part.now.wired.now c.args.part.now.nodes.now c.args.part.now.size c.members-member-items.result.now c.members-member-items.ensures g.hubs c.loop-member.member-index c.loop-member-test.true g.count c.loop-member.invariant.numbers

pub add_node-requires-clause-edges : goal.add_node-requires-clause-edges
add_node-requires-clause-edges c =
    let g = c.loop-member.self in
    edges_next c.args.part.now.wired.now c.args.part.now.nodes.now c.args.part.now.size c.members-member-items.result.now c.members-member-items.ensures g.hubs c.loop-member.member-index c.loop-member-test.true g.edges c.loop-member.invariant.edges

pub loop-member-preserved : goal.loop-member-preserved
loop-member-preserved c =
    let o = c.args.part.now.wired.now in
    let part = c.args.part.now.nodes.now in
    let g = c.add_node.new.self in
    let i = c.loop-member.member-index in
    record {
      numbers = numbers_past o part c.args.part.now.size c.members-member-items.result.now c.members-member-items.ensures g.hubs i c.loop-member-test.true g.count c.in_ok-add_node.ensures.numbers;
      edges = edges_past o part c.args.part.now.size c.members-member-items.result.now c.members-member-items.ensures g.hubs i c.loop-member-test.true g.edges c.in_ok-add_node.ensures.edges;
    }

pub returns-clause-numbers : goal.returns-clause-numbers
returns-clause-numbers c =
    let f = c.loop-member-test.false in
    let a = c.loop-member.auto in
    let g = c.loop-member.self in
    numbers_all c.args.part.now.wired.now c.args.part.now.nodes.now c.args.part.now.size c.members-member-items.result.now c.members-member-items.ensures g.hubs c.loop-member.member-index (omega arith) g.count c.loop-member.invariant.numbers

pub returns-clause-edges : goal.returns-clause-edges
returns-clause-edges c =
    let f = c.loop-member-test.false in
    let a = c.loop-member.auto in
    let g = c.loop-member.self in
    edges_all c.args.part.now.wired.now c.args.part.now.nodes.now c.args.part.now.size c.members-member-items.result.now c.members-member-items.ensures g.hubs c.loop-member.member-index (omega arith) g.edges c.loop-member.invariant.edges
