use Rattle.std.proofs.Common.{◌≡◌, ◌<◌, ◌+◌, ℕ, Some}
use Rattle.in_net.specs.Nets.{Point, Free}
use Rattle.in_reducer.specs.Cutting.{net_in}
use Rattle.in_reducer.specs.Parting.{IsInPart}
use Rattle.in_phases.proofs.closing.are_ends_closed.Given as goal

abbrev pub invariant-loop-cut : goal.invariant-loop-cut
invariant-loop-cut l = (j : ℕ) (q : Point ℕ) → j < l.cut → (net_in l.reducer).partner (Free (l.own + (j + j))) ≡ Some q → IsInPart l.branch.agents.items l.own l.cuts q
