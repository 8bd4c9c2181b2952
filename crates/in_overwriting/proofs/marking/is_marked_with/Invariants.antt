use Rattle.std.proofs.Common.{ℕ, ◌<◌}
use Rattle.in_net.specs.Nets.{signature_of}
use Rattle.in_overwriting.specs.Flag.{IsMarkedAt}
use Rattle.in_overwriting.proofs.marking.is_marked_with.Given as goal

abbrev pub invariant-loop-second : goal.invariant-loop-second
invariant-loop-second l = (j : ℕ) → j < l.second → IsMarkedAt (signature_of l.symbols) l.symbol.0 l.first j → ⊥
