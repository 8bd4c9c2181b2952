use Rattle.std.proofs.Common.{◌≡◌, map, take}
use Rattle.in_compile.proofs.members.outputs_of.Given as goal

abbrev pub invariant-loop-end : goal.invariant-loop-end
invariant-loop-end l = l.outputs ≡ map (λ f. f.kind.output) (take l.end l.net.free)
