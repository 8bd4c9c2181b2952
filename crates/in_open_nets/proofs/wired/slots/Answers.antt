use Rattle.std.proofs.Common.{◌≡◌, ◌+◌, ◌∙◌, length, ap, sym, subst, inl, inr, arith}
use Rattle.in_open_nets.specs.Parts.{AreLed, HasSlot, led}
use Rattle.in_open_nets.proofs.PartsOf.Slots.{has_slot, length_led, led_nothing, led_more, wire_read}
use Rattle.in_open_nets.proofs.wired.slots.Goals as goal

pub loop-wire-init : goal.loop-wire-init
loop-wire-init c = led_nothing c.args.open.now c.wires-wire-end.ensures.net _ (let a = c.in_ok-slots.ensures.count in let b = c.nodes-count.ensures in omega arith) c.in_ok-slots.ensures.empty

pub lead-requires : goal.lead-requires
lead-requires c =
    let o = c.args.open.now in
    let h = wire_read o c.loop-wire.wire c.wire-one.result c.wire-one.ensures in
    has_slot o c.wires-wire-end.ensures.net c.loop-wire.slots c.wire-one.result.0 c.loop-wire.invariant.all
    (c.wires-wire-end.ensures.net.net.points c.loop-wire.wire c.wire-one.result.0 c.wire-one.result.1 (inl h))

pub lead-requires-in-loop-wire : goal.lead-requires-in-loop-wire
lead-requires-in-loop-wire c =
    let o = c.args.open.now in
    let n = c.wires-wire-end.ensures.net in
    let h = wire_read o c.loop-wire.wire c.wire-one.result c.wire-one.ensures in
    subst (λ z. HasSlot z c.wire-one.result.1) (sym c.lead.ensures)
    (has_slot o n (led c.loop-wire.slots c.loop-wire.wire c.wire-one.result.0 c.wire-one.result.1) c.wire-one.result.1
    (length_led o n c.loop-wire.slots c.loop-wire.wire c.wire-one.result.0 c.wire-one.result.1 ∙ c.loop-wire.invariant.all)
    (n.net.points c.loop-wire.wire c.wire-one.result.1 c.wire-one.result.0 (inr h)))

pub loop-wire-preserved : goal.loop-wire-preserved
loop-wire-preserved c =
    let o = c.args.open.now in
    let h = wire_read o c.loop-wire.wire c.wire-one.result c.wire-one.ensures in
    let e = c.lead-in-loop-wire.ensures ∙ ap (λ z. led z c.loop-wire.wire c.wire-one.result.1 c.wire-one.result.0) c.lead.ensures in
    subst (λ z. AreLed o (c.loop-wire.wire + 1) z) (sym e)
    (led_more o c.wires-wire-end.ensures.net c.loop-wire.slots c.loop-wire.wire c.wire-one.result.0 c.wire-one.result.1 c.loop-wire.invariant h)

pub returns : goal.returns
returns c =
    let e = c.wires-wire-end.ensures.count in
    let f = c.loop-wire-test.false in
    let g = c.loop-wire.auto in
    subst (λ z. AreLed c.args.open.now z c.loop-wire.slots) (let k : c.loop-wire.wire ≡ length c.args.open.now.wires = omega arith in k) c.loop-wire.invariant
