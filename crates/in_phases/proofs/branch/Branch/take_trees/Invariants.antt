use Rattle.std.proofs.Common.{◌≡◌, length}
use Rattle.in_phases.specs.Branches.{HavePlaces, IsBranch}
use Rattle.in_phases.proofs.branch.Branch.take_trees.Given as goal

abbrev pub invariant-loop-number : goal.invariant-loop-number
invariant-loop-number l = record {
  branch : IsBranch l.reducer l.self;
  ports : HavePlaces l.reducer l.self.ports.items;
  many : length l.self.marks.items ≡ length l.fn.self.marks.items;
}
