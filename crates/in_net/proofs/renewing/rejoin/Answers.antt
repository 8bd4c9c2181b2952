use Rattle.in_net.proofs.WholeNets.Rejoined.{none_rejoined, one_rejoined, rejoins}
use Rattle.in_net.proofs.renewing.rejoin.Goals as goal

pub loop-number-init : goal.loop-number-init
loop-number-init c = none_rejoined c.args.ends.now c.args.free.now.items

pub loop-number-preserved : goal.loop-number-preserved
loop-number-preserved c = one_rejoined c.args.ends.now c.args.free.now.items c.loop-number.free.items c.loop-number.number c.index_mut.result.now _ c.loop-number.invariant c.loop-number-test.true c.requires c.index_mut.ensures.value

pub returns : goal.returns
returns c = rejoins c.args.ends.now c.args.free.now.items c.loop-number.free.items c.loop-number.number c.loop-number.invariant c.loop-number-test.false
