use Rattle.std.proofs.Common.{◌≡◌, length}
use Rattle.in_phases.specs.Branches.{IsBranch}
use Rattle.in_phases.proofs.branch.Branch.take_pairs.Given as goal

abbrev pub invariant-loop-number : goal.invariant-loop-number
invariant-loop-number l = record {
  branch : IsBranch l.reducer l.self;
  ports : l.self.ports ≡ l.fn.self.ports;
  many : length l.self.marks.items ≡ length l.fn.self.marks.items;
}
