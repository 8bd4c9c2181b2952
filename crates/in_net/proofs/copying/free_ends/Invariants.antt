use Rattle.std.proofs.Common.{◌≡◌, take}
use Rattle.in_net.proofs.copying.free_ends.Given as goal

abbrev pub invariant-loop-end : goal.invariant-loop-end
invariant-loop-end l = l.copy.items ≡ take l.end-index l.free
