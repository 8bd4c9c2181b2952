use Rattle.in_net.proofs.Wiring.Links.{one_more}
use Rattle.in_net.proofs.joining.unlinked.Goals as goal

pub loop-to-preserved : goal.loop-to-preserved
loop-to-preserved c = one_more c.loop-to.to c.args.count c.loop-to.links c.push.new.self _ c.loop-to-test.true c.in_ok-push.ensures.ok c.loop-to.invariant
