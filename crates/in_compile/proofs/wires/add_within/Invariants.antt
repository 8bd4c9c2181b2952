use Rattle.std.proofs.Common.{◌≡◌, ◌++◌, map, drop, Some, slice_get}
use Rattle.std.specs.List.{enumerate_from, filter}
use Rattle.in_compile.specs.declared.joints.Joint.TheVariants.{ToAgent}
use Rattle.in_compile.specs.Members.{AgentParts}
use Rattle.in_compile.specs.Wires.{is_from_first, wires_at}
use Rattle.in_compile.proofs.wires.add_within.Given as goal

abbrev pub invariant-loop-place : goal.invariant-loop-place
invariant-loop-place l = (a : AgentParts) → slice_get l.member.agents l.agent ≡ Some a
    → l.wires ++ filter is_from_first (map (λ x. (ToAgent l.agent x.0, x.1)) (enumerate_from l.place (drop l.place a.ends))) ≡ l.initial.wires ++ filter is_from_first (wires_at (l.agent, a))
