use Rattle.std.proofs.Common.{◌≡◌, drop, map}
use Rattle.in_syntax.specs.Refusals.{earliest}
use Rattle.in_net.specs.Searching.{misfit}
use Rattle.in_net.proofs.faults.+misfit.Given as goal

abbrev pub decreases-misfit : goal.decreases-misfit
decreases-misfit l = goal.size-misfit l

abbrev pub invariant-loop-argument : goal.invariant-loop-argument
invariant-loop-argument l = earliest l.found (map (misfit l.symbols) (drop l.argument-index l.argument-items)) ≡ misfit l.symbols l.term
