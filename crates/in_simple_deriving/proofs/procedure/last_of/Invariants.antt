use Rattle.std.proofs.Common.{◌≡◌, ◌++◌, drop}
use Rattle.in_simple_deriving.proofs.procedure.last_of.Given as goal

abbrev pub invariant-loop-root : goal.invariant-loop-root
invariant-loop-root l = l.last ++ drop l.root l.roots ≡ drop l.first l.roots
