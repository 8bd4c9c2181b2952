use Rattle.in_open_nets.specs.Members.{AreMarks, marked}
use Rattle.in_open_nets.proofs.PartsOf.Members.{past}
use Rattle.in_open_nets.proofs.PartsOf.Places.{IsUnitedTo}
use Rattle.in_open_nets.proofs.scratch.mark_all.Given as goal

abbrev pub invariant-loop-node : goal.invariant-loop-node
invariant-loop-node l = record {
  marks : AreMarks l.marks l.last l.left;
  united : IsUnitedTo l.list (marked l.last l.initial.marks) (marked l.last l.marks) (past l.node-items l.node-index);
}
