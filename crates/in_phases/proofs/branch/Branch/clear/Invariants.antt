use Rattle.std.proofs.Common.{◌≡◌, [], length, vec_len}
use Rattle.in_phases.specs.Marks.{NoOtherIsMarked}
use Rattle.in_phases.proofs.branch.Branch.clear.Given as goal

abbrev pub invariant-loop-cell : goal.invariant-loop-cell
invariant-loop-cell l = record {
  no_other : NoOtherIsMarked l.self.agents.items l.self.marks.items;
  none : l.self.ports.items ≡ [];
  many : length l.self.marks.items ≡ length l.fn.self.marks.items;
}

abbrev pub decreases-loop-cell : goal.decreases-loop-cell
decreases-loop-cell l = vec_len l.self.agents
