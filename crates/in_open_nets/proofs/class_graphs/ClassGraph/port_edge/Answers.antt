use Rattle.std.proofs.Common.{◌∙◌, sym, subst}
use Rattle.in_open_nets.specs.declared.open_nets.OpenPoint.TheVariants.{Port}
use Rattle.in_open_nets.specs.ClassEdges.{ComesFirst}
use Rattle.in_open_nets.specs.OpenNets.{IsWire}
use Rattle.in_open_nets.proofs.Built.Balance.{wire_turn}
use Rattle.in_open_nets.proofs.Graphs.ClassEdges.{class_small}
use Rattle.in_open_nets.proofs.PartsOf.Slots.{neighbour_free, neighbour_out}
use Rattle.in_open_nets.proofs.Built.Sound.{port_place}
use Rattle.in_open_nets.proofs.PartsOf.Sums.{not_both}
use Rattle.in_open_nets.proofs.class_graphs.ClassGraph.port_edge.Goals as goal
use Rattle.in_open_nets.proofs.class_graphs.ClassGraph.port_edge.Goals.{else-comes_first-via-then-comes_first+else-has, else-comes_first-via-else-comes_first}

pub class_vertex-requires-clause-few : goal.class_vertex-requires-clause-few
class_vertex-requires-clause-few c =
    let o = c.args.part.now.wired.now in
    let net = c.partner.ensures.net in
    class_small o net.net c.args.part.now.nodes.now c.args.part.now.size c.args.self.now.hubs c.args.self.now.count c.requires.numbers net.nodes c.partner.result.0 c.args.node c.args.port c.partner.result.1 c.requires.here c.partner.ensures.wire

pub class_vertex-requires-then-has-clause-few : goal.class_vertex-requires-then-has-clause-few
class_vertex-requires-then-has-clause-few c =
    let o = c.args.part.now.wired.now in
    let net = c.partner.ensures.net in
    let near = c.in_default-Port.near in
    let place = c.in_default-Port.place in
    class_small o net.net c.args.part.now.nodes.now c.args.part.now.size c.args.self.now.hubs c.args.self.now.count c.requires.numbers net.nodes c.partner.result.0 near place (Port c.args.node c.args.port) (sym c.has.ensures ∙ c.if-has.true)
    (wire_turn o c.partner.result.0 (Port c.args.node c.args.port) (Port near place) (subst (λ z. IsWire o c.partner.result.0 (Port c.args.node c.args.port) z) c.in_default-Port.is-1 c.partner.ensures.wire))

pub returns-else-comes_first : goal.returns-else-comes_first
returns-else-comes_first c =
    let o = c.args.part.now.wired.now in
    let part = c.args.part.now.nodes.now in
    let n = c.args.node in
    let i = c.args.port in
    let v = c.partner.result.0 in
    let l = c.in_default-Port.near in
    let k = c.in_default-Port.place in
    let net = c.partner.ensures.net in
    let wire = subst (λ z. IsWire o v (Port n i) z) c.in_default-Port.is-1 c.partner.ensures.wire in
    elim c.else-comes_first.branch [
      | else-comes_first-via-then-comes_first+else-has w ↦ λ u m j x here first. neighbour_out o net part v n i l k wire (sym w.has.ensures ∙ w.if-has.false) u m j x here
      | else-comes_first-via-else-comes_first w ↦ λ u m j x here first.
          let e = port_place m l j k (net.net.once u v (Port n i) (Port m j) (Port l k) x wire).1 in
          not_both c.comes_first.result (c.comes_first.ensures.1 (subst (λ z. ComesFirst n i l z) e.1 (subst (λ z. ComesFirst n i z j) e.0 first))) w.if-comes_first.false
    ]

pub returns-in_default-Free : goal.returns-in_default-Free
returns-in_default-Free c =
    let o = c.args.part.now.wired.now in
    let n = c.args.node in
    let i = c.args.port in
    λ w m j x here first. neighbour_free o c.partner.ensures.net c.args.part.now.nodes.now c.partner.result.0 n i c.in_default-Free.field-0-1
    (subst (λ z. IsWire o c.partner.result.0 (Port n i) z) c.in_default-Free.is-1 c.partner.ensures.wire) w m j x here
