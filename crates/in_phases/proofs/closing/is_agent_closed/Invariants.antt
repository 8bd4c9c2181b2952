use Rattle.std.proofs.Common.{◌≡◌, ◌<◌, ℕ, Some}
use Rattle.in_net.specs.Nets.{Point, Port}
use Rattle.in_reducer.specs.Cutting.{net_in}
use Rattle.in_reducer.specs.Parting.{IsInPart}
use Rattle.in_phases.proofs.closing.is_agent_closed.Given as goal

abbrev pub invariant-loop-place : goal.invariant-loop-place
invariant-loop-place l = (i : ℕ) (q : Point ℕ) → i < l.place → (net_in l.reducer).partner (Port l.cell.0 i) ≡ Some q → IsInPart l.branch.agents.items l.own l.cuts q
