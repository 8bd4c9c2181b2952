use Rattle.in_net.proofs.Wiring.Joins.{one_unseen}
use Rattle.in_net.proofs.counting.unseen.Goals as goal

pub loop-preserved : goal.loop-preserved
loop-preserved c = one_unseen c.loop.counter c.args.names c.loop.seen c.push.new.self _ c.loop-test.true c.in_ok-push.ensures.ok c.loop.invariant
