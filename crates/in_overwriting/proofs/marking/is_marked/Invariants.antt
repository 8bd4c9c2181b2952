use Rattle.std.proofs.Common.{ℕ, ◌<◌}
use Rattle.in_net.specs.Nets.{signature_of}
use Rattle.in_overwriting.specs.Flag.{IsMarkedAt}
use Rattle.in_overwriting.proofs.marking.is_marked.Given as goal

abbrev pub invariant-loop-first : goal.invariant-loop-first
invariant-loop-first l = (i j : ℕ) → i < l.first → IsMarkedAt (signature_of l.symbols) l.symbol.0 i j → ⊥
