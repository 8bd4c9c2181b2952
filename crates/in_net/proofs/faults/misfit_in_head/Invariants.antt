use Rattle.std.proofs.Common.{◌≡◌, drop, map}
use Rattle.in_syntax.specs.Refusals.{earliest}
use Rattle.in_net.specs.Searching.{misfit, misfit_in_head}
use Rattle.in_net.proofs.faults.misfit_in_head.Given as goal

abbrev pub invariant-loop-term : goal.invariant-loop-term
invariant-loop-term l = earliest l.found (map (misfit l.symbols) (drop l.term-index l.term-items)) ≡ misfit_in_head l.symbols l.head
