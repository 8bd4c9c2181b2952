use Rattle.std.proofs.Common.{◌≡◌, ◌++◌, map, take}
use Rattle.in_compile.specs.Members.{joint_of}
use Rattle.in_compile.proofs.members.add_joints.Given as goal

abbrev pub invariant-loop-number : goal.invariant-loop-number
invariant-loop-number l = l.joints ≡ l.initial.joints ++ map joint_of (take l.number l.points)
