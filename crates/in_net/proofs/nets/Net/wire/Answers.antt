use Rattle.in_net.proofs.WholeNets.WireAt.{points_of}
use Rattle.in_net.proofs.nets.Net.wire.Goals as goal

pub returns-clause-points : goal.returns-clause-points
returns-clause-points c = points_of _ c.args.self.now c.as_slice.result.now c.args.number _ c.self.view_is c.self.invariant c.as_slice.ensures c.requires
