use Rattle.std.proofs.Common.{ℕ, ◌<◌}
use Rattle.in_open_nets.specs.Constructions.{IsIn}
use Rattle.in_open_nets.specs.Members.{nodes_in}
use Rattle.in_simple.proofs.sets.NumberSet.shares.Given as goal

abbrev pub invariant-loop-number : goal.invariant-loop-number
invariant-loop-number l = (n : ℕ) → n < l.number → IsIn n (nodes_in l.self) → IsIn n (nodes_in l.other) → ⊥
