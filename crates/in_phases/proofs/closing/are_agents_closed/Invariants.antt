use Rattle.std.proofs.Common.{◌≡◌, ◌<◌, ℕ, Some, slice_get}
use Rattle.in_arena.specs.declared.content.CellNo.{CellNo}
use Rattle.in_net.specs.Nets.{Point, Port}
use Rattle.in_reducer.specs.Cutting.{net_in}
use Rattle.in_reducer.specs.Parting.{IsInPart}
use Rattle.in_phases.proofs.closing.are_agents_closed.Given as goal

abbrev pub invariant-loop-number : goal.invariant-loop-number
invariant-loop-number l = (k i : ℕ) (c : CellNo) (q : Point ℕ) → k < l.number → slice_get l.branch.agents.items k ≡ Some c → (net_in l.reducer).partner (Port c.0 i) ≡ Some q → IsInPart l.branch.agents.items l.own l.cuts q
