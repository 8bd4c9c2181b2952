use Rattle.std.proofs.Common.{arith, length, ◌+◌, ◌<◌}
use Rattle.in_net.specs.declared.reading.TextJoint.{TextJoint}
use Rattle.in_net.proofs.Wiring.Links.{all_here}
use Rattle.in_net.proofs.joining.join_joints.Goals as goal

pub overflow_add-joint : goal.overflow_add-joint
overflow_add-joint c =
    let n = length c.args.links.now in
    let here = (all_here (λ (j : TextJoint). (j.one + j.port < n) × (j.other < n)) c.args.joints.now c.loop-joint.joint-index (record { one = 0; port = 0; other = 0; place = record { from = 0; to = 0; line = 0; col = 0 } }) c.loop-joint-test.true c.loop-joint.invariant.inside).0 in
    let room = c.requires.count in
    omega (arith, here, room)
