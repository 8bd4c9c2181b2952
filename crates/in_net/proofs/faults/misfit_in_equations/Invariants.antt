use Rattle.std.proofs.Common.{◌≡◌, drop, map}
use Rattle.in_syntax.specs.Refusals.{earliest}
use Rattle.in_net.specs.Searching.{misfit_in_equation, misfit_in_equations}
use Rattle.in_net.proofs.faults.misfit_in_equations.Given as goal

abbrev pub invariant-loop-equation : goal.invariant-loop-equation
invariant-loop-equation l = earliest l.found (map (misfit_in_equation l.symbols) (drop l.equation-index l.equations)) ≡ misfit_in_equations l.symbols l.equations
