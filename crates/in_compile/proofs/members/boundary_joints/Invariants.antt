use Rattle.std.proofs.Common.{◌≡◌, map, take}
use Rattle.in_compile.specs.Members.{joint_of}
use Rattle.in_compile.proofs.members.boundary_joints.Given as goal

abbrev pub invariant-loop-end : goal.invariant-loop-end
invariant-loop-end l = l.joints ≡ map (λ f. joint_of f.end) (take l.end l.net.free)
