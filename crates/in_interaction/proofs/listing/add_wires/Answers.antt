use Rattle.in_interaction.proofs.Stepping.Wires.{one_port}
use Rattle.in_interaction.proofs.listing.add_wires.Goals as goal

pub loop-place-preserved : goal.loop-place-preserved
loop-place-preserved c =
    let added = c.in_ok-add_wire.ensures {u = tt} in
    λ n d is same before. one_port n d c.args.agent c.loop-place.place c.args.ends.now _ c.loop-place.wires c.add_wire.new.wires is same c.loop-place-test.true added (c.loop-place.invariant n d is same before)
