use Rattle.std.proofs.Common.{◌≡◌, drop, map}
use Rattle.in_syntax.specs.Walks.{walks_term, walks_from}
use Rattle.in_syntax.proofs.walks.+walk_term.Given as goal

abbrev pub decreases-walk_term : goal.decreases-walk_term
decreases-walk_term g l = goal.size-walk_term g l

abbrev pub invariant-loop-number : goal.invariant-loop-number
invariant-loop-number g l =
    let v = g.V.Visitor.visits in
    walks_from v l.known l.number (map (walks_term v) (drop l.number l.argument-items)) l.visitor ≡ walks_from v l.known 0 (map (walks_term v) l.argument-items) l.initial.visitor
