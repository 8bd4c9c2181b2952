use Rattle.std.proofs.Common.{◌≡◌, length}
use Rattle.in_phases.specs.Branches.{HavePlaces, IsBranch}
use Rattle.in_phases.proofs.branch.Branch.take_behind.Given as goal

abbrev pub invariant-loop-port : goal.invariant-loop-port
invariant-loop-port l = record {
  branch : IsBranch l.reducer l.self;
  ports : HavePlaces l.reducer l.self.ports.items;
  many : length l.self.marks.items ≡ length l.fn.self.marks.items;
}
