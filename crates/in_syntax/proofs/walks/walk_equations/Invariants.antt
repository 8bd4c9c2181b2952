use Rattle.std.proofs.Common.{◌≡◌, drop}
use Rattle.in_syntax.specs.Walks.{walks_equations}
use Rattle.in_syntax.proofs.walks.walk_equations.Given as goal

abbrev pub invariant-loop-left : goal.invariant-loop-left
invariant-loop-left g l =
    let v = g.V.Visitor.visits in
    walks_equations v (drop l.left-index l.equations) l.visitor ≡ walks_equations v l.equations l.fn.visitor
