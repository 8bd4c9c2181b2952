use Rattle.std.proofs.Common.{◌≡◌, ◌+◌, ℕ, Bool, List, length, sym, subst, arith}
use Rattle.in_open_nets.specs.declared.class_graphs.ClassGraph.{ClassGraph}
use Rattle.in_open_nets.specs.ClassEdges.{AreEdges, HaveNumbers}
use Rattle.in_open_nets.specs.OpenNets.{OpenNet}
use Rattle.in_open_nets.specs.Stuck.{ports_of}
use Rattle.in_open_nets.proofs.Graphs.ClassEdges.{wire_in, wire_out}
use Rattle.in_open_nets.proofs.Graphs.HubMembers.{wires_node}
use Rattle.in_open_nets.proofs.class_graphs.ClassGraph.add_edges.Goals as goal
use Rattle.in_open_nets.proofs.class_graphs.ClassGraph.add_edges.Goals.{in-Some+in_ok-push, in_default}

abbrev IsListed : OpenNet → List Bool → ℕ → ℕ → ClassGraph → Type 0
IsListed o part b k graph = record { numbers : HaveNumbers o part (length o.nodes) graph.hubs graph.count; edges : AreEdges o part b k graph.hubs graph.edges }

pub loop-port-preserved : goal.loop-port-preserved
loop-port-preserved c =
    let o = c.args.part.now.wired.now in
    let part = c.args.part.now.nodes.now in
    let b = c.args.node in
    let k = c.loop-port.port in
    let old = c.loop-port.self in
    let i = c.loop-port.invariant in
    elim c.match-port_edge.branch [
      | in-Some+in_ok-push w ↦
          subst (IsListed o part b (k + 1)) (sym w.self-is) (record {
            numbers = i.numbers;
            edges = subst (AreEdges o part b (k + 1) old.hubs) (sym w.in_ok-push.ensures.ok) (wire_in o part old.hubs b k old.edges w.in-Some.edge c.requires.here i.edges w.in-Some.ensures);
          })
      | in_default w ↦ subst (IsListed o part b (k + 1)) (sym w.self-is) (record { numbers = i.numbers; edges = wire_out o part old.hubs b k old.edges i.edges w.in_default.ensures })
    ]

pub returns-clause-edges : goal.returns-clause-edges
returns-clause-edges c =
    let o = c.args.part.now.wired.now in
    let e = c.ports-port-end.ensures.ports in
    let f = c.loop-port-test.false in
    let g = c.loop-port.auto in
    let end : c.loop-port.port ≡ ports_of o c.args.node = omega arith in
    let graph = c.loop-port.self in
    wires_node o c.ports-port-end.ensures.net.net c.args.part.now.nodes.now graph.hubs c.args.node c.loop-port.port end graph.edges c.loop-port.invariant.edges
