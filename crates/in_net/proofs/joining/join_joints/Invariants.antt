use Rattle.std.proofs.Common.{◌≡◌, drop, length}
use Rattle.in_net.specs.Joining.{with_joints, JointsInside}
use Rattle.in_net.proofs.joining.join_joints.Given as goal

abbrev pub invariant-loop-joint : goal.invariant-loop-joint
invariant-loop-joint l = record {
  links : with_joints l.links (drop l.joint-index l.joints) ≡ with_joints l.fn.links l.joints;
  inside : JointsInside (length l.fn.links) (drop l.joint-index l.joints);
  count : length l.links ≡ length l.fn.links;
}
